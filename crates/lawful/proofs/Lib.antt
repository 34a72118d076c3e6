pub mod Sums
pub mod KeptPaths
pub mod Slotting
pub mod Whole
