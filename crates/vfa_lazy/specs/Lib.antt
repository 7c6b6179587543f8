pub mod Giving
pub mod Questions
pub mod Telling
