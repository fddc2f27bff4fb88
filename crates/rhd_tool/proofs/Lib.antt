pub mod PieceLaws
pub mod Sessions
pub mod Statuses
pub mod WordLaws
