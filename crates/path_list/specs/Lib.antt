pub mod Items
pub mod Marks
pub mod Reader
pub mod Spelled
pub mod Streams
