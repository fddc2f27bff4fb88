pub mod Bools
pub mod Marked
pub mod Indexed
pub mod Told
pub mod PathLaws
pub mod Placed
pub mod Registers
