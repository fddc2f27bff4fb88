pub mod Lends
pub mod Lists
pub mod Marks
pub mod Paths
pub mod Statics
pub mod FirstModule
