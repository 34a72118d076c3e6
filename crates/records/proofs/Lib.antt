pub mod Entries
pub mod Lifts
pub mod Opens
pub mod Closes
pub mod Swings
pub mod Lowers
pub mod Fronts
