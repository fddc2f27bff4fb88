pub mod Asked
pub mod Codes
pub mod Environs
pub mod Faults
pub mod File
pub mod Held
pub mod Loading
pub mod Sessions
