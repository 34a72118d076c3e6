pub mod Stats
pub mod Places
pub mod Numbers
