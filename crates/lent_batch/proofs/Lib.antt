pub mod OnBlock
