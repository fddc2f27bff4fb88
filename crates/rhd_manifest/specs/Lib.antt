pub mod Entry
pub mod Manifest
pub mod Rank
pub mod Index
pub mod Meets
pub mod Fits
pub mod Listing
