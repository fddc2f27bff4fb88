pub mod Operators
pub mod Engine
pub mod Start
pub mod Held
pub mod Of
pub mod Registered
pub mod Display
pub mod NotFound
