pub mod Refused
pub mod Used
pub mod Unused
pub mod Computed
pub mod Start
pub mod FromC
pub mod Ground
pub mod Batches
