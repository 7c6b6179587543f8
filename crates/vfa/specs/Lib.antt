pub mod Command
pub mod Form
pub mod Refusals
pub mod Run
pub mod Status
pub mod Stops
