pub mod End
pub mod Extras
pub mod Nodes
pub mod Seen
pub mod Trees
