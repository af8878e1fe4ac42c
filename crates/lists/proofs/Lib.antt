pub mod Tests
pub mod Below
pub mod Splice
pub mod Runs
pub mod ByIndex
