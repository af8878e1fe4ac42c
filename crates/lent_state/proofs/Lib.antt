pub mod Answers
pub mod Started
