pub mod PrintedTexts
pub mod Runs
pub mod PrintedValues
pub mod PrintedKeys
pub mod PrintedReplies
pub mod TreeLines
