-- What lookups tell, and when they are refused.
pub mod Pure
pub mod Walking
pub mod Beside
pub mod Counting
pub mod Rewalk
pub mod Loops
pub mod Linked
pub mod LinkCount
pub mod Landing
pub mod Lands
pub mod Passing
pub mod Ends
pub mod Standing
