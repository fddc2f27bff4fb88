pub mod Rows
pub mod Grammar
pub mod Session
pub mod ReadRows
pub mod ReadSession
pub mod Answers
pub mod Proper
