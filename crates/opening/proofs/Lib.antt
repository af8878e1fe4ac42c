pub mod Facts
pub mod Rows
pub mod Lent
