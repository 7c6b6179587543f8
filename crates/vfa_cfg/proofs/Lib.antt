pub mod InOrder
pub mod Members
pub mod Visiting
pub mod Walked
pub mod Marks
mod Walking
mod Weights
