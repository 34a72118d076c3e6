pub mod Cells
pub mod Setting
pub mod Opening
pub mod Closing
