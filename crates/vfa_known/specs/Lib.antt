pub mod Cube
pub mod Known
pub mod Runs
pub mod AmountRuns
pub mod Shift
pub mod Agreement
pub mod Product
