pub mod Table
pub mod Reading
pub mod Laws
pub mod Grammar
pub mod Turns
pub mod Lead
pub mod Looking
