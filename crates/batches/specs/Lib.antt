pub mod Batch
pub mod InOrder
pub mod Lists
pub mod Examples
pub mod AnItem
