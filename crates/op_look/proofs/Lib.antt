pub mod Showing
pub mod Ending
pub mod Reading
pub mod Listing
pub mod Lists
pub mod Differing
