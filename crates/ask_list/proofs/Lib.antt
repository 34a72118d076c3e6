pub mod Children
pub mod Entered
pub mod Given
pub mod Ordered
pub mod Spotted
pub mod Steps
pub mod Texts
