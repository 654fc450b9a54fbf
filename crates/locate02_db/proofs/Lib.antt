pub mod ItemLaws
pub mod ItemSizes
pub mod ItemSteady
pub mod ItemSteps
pub mod ReaderSteps
pub mod PathPieces
pub mod Encoded
pub mod Puts
mod DamagedExamples
