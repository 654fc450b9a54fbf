pub mod Field
pub mod Front
pub mod Feed
pub mod Stream
pub mod Endings
pub mod Paths
pub mod Calls
pub mod Prefix
