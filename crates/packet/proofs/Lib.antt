pub mod Formed
pub mod Header
