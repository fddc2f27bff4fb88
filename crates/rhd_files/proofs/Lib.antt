pub mod Cuts
pub mod Folders
