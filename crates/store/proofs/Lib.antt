pub mod Asked
pub mod Looking
pub mod Listed
pub mod Spaced
