pub mod FewBytes
pub mod FormatAhead
pub mod Preambles
pub mod Named
pub mod Refusals
pub mod NoDatabase
pub mod Formats
pub mod Blocks
