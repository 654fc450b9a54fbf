pub mod Numbers
pub mod Naming
pub mod FirstTree
pub mod Rounds
pub mod Kept
pub mod Sizes
pub mod Steps
