pub mod Searched
pub mod Patterns
pub mod Asks
pub mod Picks
pub mod Walks
pub mod Looks
pub mod Races
