pub mod Meets
pub mod Lookups
pub mod Leads
