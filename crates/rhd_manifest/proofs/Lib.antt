pub mod Ranks
pub mod Places
mod Folds
mod Tables
pub mod Fitting
mod Changes
mod Held
pub mod Empty
pub mod Firsts
