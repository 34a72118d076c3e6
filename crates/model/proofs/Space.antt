-- Entries and bytes used after each edit.
pub mod Sums
pub mod Edits
pub mod Steps
pub mod States
pub mod After
pub mod Room
