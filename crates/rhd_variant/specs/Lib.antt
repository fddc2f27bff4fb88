pub mod Variant
pub mod Takes
