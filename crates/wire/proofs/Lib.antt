pub mod Numbers
pub mod Lengths
pub mod Words
pub mod Undo
pub mod WordRuns
pub mod Modulo
pub mod Xor
pub mod ByByte
