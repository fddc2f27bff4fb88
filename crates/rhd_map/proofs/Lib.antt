pub mod MapOrder
pub mod Undone
