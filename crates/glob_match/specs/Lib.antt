pub mod Bracket
pub mod Item
pub mod Language
pub mod Needle
pub mod Pattern
pub mod Spot
pub mod Stored
