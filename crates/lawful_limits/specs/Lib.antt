pub mod Settles
pub mod Limits
