pub mod Arrays
pub mod AskLaws
pub mod GivenBack
