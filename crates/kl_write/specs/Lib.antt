pub mod LaidKits
pub mod Windows
pub mod Writes
pub mod InSpan
pub mod Targets
pub mod Values
pub mod Slots
pub mod Segments
