pub mod Changing
pub mod Seeking
pub mod Reading
pub mod Resizing
pub mod Keeping
