pub mod GapsBetween
