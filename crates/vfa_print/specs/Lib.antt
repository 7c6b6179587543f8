pub mod Layout
pub mod Numbered
pub mod Trees
pub mod Writing
