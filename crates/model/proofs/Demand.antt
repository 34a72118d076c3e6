-- Demand 3 of states: two runs of one job.
pub mod TwoRuns
pub mod Over
pub mod OverEdits
pub mod Places
pub mod Asking
pub mod Extras
pub mod Joining
pub mod Keeping
pub mod Parting
pub mod Spacing
pub mod Totals
pub mod Contents
pub mod Tidy
pub mod Steady
pub mod Bounds
pub mod Calls
