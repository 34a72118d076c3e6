pub mod Shows
pub mod Listing
pub mod Space
