pub mod Records
pub mod Heads
