pub mod Items
pub mod StreamItems
pub mod Reader
