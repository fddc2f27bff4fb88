pub mod Gathered
pub mod Made
pub mod Plain
pub mod SameTrees
