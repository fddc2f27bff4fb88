pub mod Paths
pub mod MemState
pub mod Files
