pub mod Asking
pub mod Spots
pub mod Walked
pub mod Ways
