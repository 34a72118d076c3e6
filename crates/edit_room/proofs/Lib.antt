pub mod Ending
pub mod Vacant
pub mod Wider
pub mod Resizing
pub mod Parting
