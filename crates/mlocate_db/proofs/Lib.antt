pub mod ItemLaws
pub mod ItemSizes
pub mod ItemSteady
pub mod Entries
pub mod ItemSteps
pub mod PathSteps
pub mod ReaderSteps
pub mod Starts
pub mod WrittenParts
mod DamagedExamples
