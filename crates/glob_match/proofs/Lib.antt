pub mod Cost
pub mod Members
pub mod BracketParts
pub mod Needles
pub mod Spots
pub mod Units
pub mod Walk
