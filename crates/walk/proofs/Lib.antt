pub mod Behind
pub mod Reached
pub mod Rooted
pub mod Passing
pub mod Chains
pub mod Leading
