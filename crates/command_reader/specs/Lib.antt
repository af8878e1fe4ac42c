pub mod Beside
pub mod Read
