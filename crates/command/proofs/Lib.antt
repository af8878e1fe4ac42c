pub mod OnState
pub mod OnBlock
