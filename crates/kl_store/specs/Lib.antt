pub mod Names
pub mod Disk
pub mod Meaning
pub mod Images
pub mod Calls
pub mod Outside
pub mod Files
pub mod Counts
