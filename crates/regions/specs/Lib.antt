pub mod Lookup
pub mod Halving
pub mod SearchExamples
