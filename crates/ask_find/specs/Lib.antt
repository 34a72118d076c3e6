pub mod Finds
pub mod Spans
pub mod Paths
pub mod Spots
