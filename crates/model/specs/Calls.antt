-- States, calls, what a call answers and leaves, jobs.
pub mod States
pub mod Calling
pub mod Performing
unfoldable pub use States.*
unfoldable pub use Calling.*
unfoldable pub use Performing.*
