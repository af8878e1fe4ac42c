pub mod Check
pub mod Numbers
pub mod Whole
pub mod OverPackets
pub mod FromCalls
pub mod HeadersAlone
pub mod Examples
