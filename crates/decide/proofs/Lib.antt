pub mod Facts
pub mod Rows
pub mod Right
pub mod Commands
