pub mod Pairs
pub mod Marks
pub mod Paths
pub mod Indexed
pub mod Found
pub mod NativeIndex
pub mod Tells
