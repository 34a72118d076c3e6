pub mod Fits
pub mod Looks
