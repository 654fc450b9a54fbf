pub mod ByteSet
pub mod Class
pub mod Part
