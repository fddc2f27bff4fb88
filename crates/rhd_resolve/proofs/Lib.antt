pub mod Contents
pub mod Growth
pub mod LoadedFits
pub mod MakeAnswers
pub mod ReadAnswers
pub mod ScriptsDeclared
