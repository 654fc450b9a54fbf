pub mod NameList
pub mod NameStarts
pub mod Names
pub mod Order
pub mod Path
pub mod Spans
pub mod Stamp
