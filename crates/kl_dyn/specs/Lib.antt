pub mod Entries
pub mod LookUp
pub mod Parts
pub mod Rows
