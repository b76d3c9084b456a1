pub mod FileMaps
pub mod Blocks
pub mod Written
pub mod Calls
pub mod Numbering
pub mod Pending
pub mod Lost
