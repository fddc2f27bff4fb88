pub mod Environs
pub mod Filled
pub mod Finished
pub mod Found
pub mod HostEnds
pub mod Stack
pub mod Stepped
pub mod Unpicked
