pub mod OnStore
