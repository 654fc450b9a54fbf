pub mod KnownSteps
pub mod PartTaken
pub mod LessTaken
pub mod GatherLemmas
mod StoredLemmas
pub mod KeyedLemmas
pub mod KeyedMaps
mod FittingNames
pub mod DirLemmas
