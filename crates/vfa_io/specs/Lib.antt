pub mod Bytes
pub mod Count
pub mod Memory
pub mod States
