pub mod Once
pub mod Spreads
pub mod Stops
pub mod Spans
pub mod OnePlacement
