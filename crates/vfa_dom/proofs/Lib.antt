pub mod Searches
pub mod Bests
pub mod SetSearches
pub mod ResultSets
