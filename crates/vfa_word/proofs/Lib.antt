pub mod Wrapping
pub mod Readings
mod Worked
