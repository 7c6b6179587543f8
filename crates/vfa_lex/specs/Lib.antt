pub mod Gaps
pub mod Pieces
