mod FileLemmas
mod HoldingLemmas
mod ScanLemmas
mod MemoryLemmas
mod ToldLemmas
mod Reusing
mod Shown
mod Opening
pub mod UpdateLemmas
