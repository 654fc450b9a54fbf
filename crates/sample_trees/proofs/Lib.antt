mod Draws
mod Paths
mod DirEdits
pub mod Stamps
pub mod Sizes
