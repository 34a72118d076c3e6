pub mod Moved
pub mod Turn
