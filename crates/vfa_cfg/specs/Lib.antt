pub mod Edges
pub mod Heads
pub mod Order
pub mod Ordered
pub mod Search
pub mod Sizes
