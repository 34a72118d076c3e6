pub mod Altering
pub mod Timing
pub mod Metadata
pub mod Putting
