pub mod Steps
pub mod ValueBytes
