pub mod Totals
pub mod Unnamed
pub mod Answers
