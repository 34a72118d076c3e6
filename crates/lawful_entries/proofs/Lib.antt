pub mod Looking
pub mod Walking
pub mod Joining
pub mod Ordered
