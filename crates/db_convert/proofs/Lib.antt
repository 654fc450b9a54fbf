mod Pieces
mod ReadFiles
mod ReadPaths
mod CutTexts
pub mod Sets
pub mod DatabaseItems
pub mod Directories
mod ReadBack
mod Refused
mod Example
mod Comparing
mod NextAdmitted
mod RunPlaces
mod Sorting
mod Turning
mod Seeking
mod TurnTexts
mod Conversions
mod Targets
