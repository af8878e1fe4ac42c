pub mod Blocks
pub mod ReplyBytes
pub mod Told
