pub mod PrintingWeights
pub mod PrintingDigits
pub mod PlainRuns
pub mod PrintingEntries
pub mod PrintingTrees
pub mod TreeOrder
