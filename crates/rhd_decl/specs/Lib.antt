pub mod Collisions
pub mod CustomTypes
pub mod Flags
pub mod NativeKeys
pub mod Registration
