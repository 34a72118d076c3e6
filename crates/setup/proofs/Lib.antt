pub mod Answers
pub mod Blank
pub mod Fits
pub mod Fresh
pub mod Zeros
