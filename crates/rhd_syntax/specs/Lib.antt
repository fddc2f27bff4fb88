pub mod Bytes
pub mod Arguments
pub mod Operators
pub mod Maps
pub mod Spans
pub mod Reading
pub mod Answers
pub mod Runs
