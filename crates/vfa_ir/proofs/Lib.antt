pub mod Reading
pub mod Keywords
