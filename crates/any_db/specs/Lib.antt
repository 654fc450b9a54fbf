pub mod Formats
pub mod Reader
