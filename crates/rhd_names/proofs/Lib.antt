pub mod EachToken
pub mod Narrowed
