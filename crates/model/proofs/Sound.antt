-- Every call leaves a state that obeys the rules.
pub mod Worlds
pub mod Edits
pub mod Entries
pub mod Files
pub mod Lookups
pub mod Numbers
pub mod Operations
pub mod Parts
pub mod Paths
pub mod Rename
pub mod Meets
pub mod Settled
pub mod Reached
