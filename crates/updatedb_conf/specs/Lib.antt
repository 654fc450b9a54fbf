pub mod Block
pub mod Codes
pub mod Line
pub mod Settings
pub mod Stored
pub mod Texts
pub mod Value
pub mod Words
