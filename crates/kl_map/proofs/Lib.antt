pub mod FirstOutside
pub mod Fronts
pub mod Heads
pub mod Lines
pub mod Orders
pub mod Rows
pub mod Spelled
pub mod Texts
