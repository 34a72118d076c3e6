pub mod Lending
pub mod Doing
pub mod Parts
pub mod Testing
pub mod Beginning
pub mod Telling
