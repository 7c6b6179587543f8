pub mod Accepted
mod Ascending
mod Definitions
mod Entries
pub mod Fitting
mod Given
pub mod Keeping
pub mod Names
pub mod NarrowedTypes
pub mod Noted
mod Rows
pub mod Truthful
