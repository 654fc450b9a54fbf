pub mod Items
pub mod Spelled
pub mod StreamItems
pub mod Reader
pub mod Writer
