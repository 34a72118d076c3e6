pub mod ByKind
pub mod Filled
pub mod Taking
