pub mod Defines
pub mod Scan
pub mod Split
