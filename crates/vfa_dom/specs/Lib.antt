pub mod Search
pub mod Sets
pub mod Best
pub mod Results
