-- States that no call tells apart.
pub mod States
pub mod Runs
pub mod Chain
