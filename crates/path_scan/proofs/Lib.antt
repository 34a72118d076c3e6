pub mod Fronts
pub mod Trimming
