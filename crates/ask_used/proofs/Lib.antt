pub mod Marked
pub mod Sums
pub mod Totals
pub mod Used
pub mod Weighing
