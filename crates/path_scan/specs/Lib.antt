pub mod Left
pub mod Measure
pub mod Plain
