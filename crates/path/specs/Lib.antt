pub mod Path
pub mod Answer
pub mod Backward
