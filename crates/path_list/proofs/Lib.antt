pub mod ItemLaws
pub mod ListEndings
pub mod Lists
pub mod PathSteps
pub mod ReaderSteps
