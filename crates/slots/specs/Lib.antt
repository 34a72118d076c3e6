pub mod Free
pub mod Put
pub mod Times
pub mod Uses
