pub mod Examples
pub mod FromC
pub mod GroundFromC
pub mod BatchesFromC
