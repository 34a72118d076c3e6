pub mod Utf8
pub mod Classes
pub mod Steps
pub mod Looks
