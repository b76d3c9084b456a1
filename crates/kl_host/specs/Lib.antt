pub mod Paths
pub mod Notes
pub mod Disks
