pub mod Faults
pub mod Single
pub mod Runs
pub mod Exercises
