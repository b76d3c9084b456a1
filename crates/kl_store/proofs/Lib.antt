pub mod NameMaps
pub mod Disks
pub mod Moments
pub mod KeptNames
pub mod WrittenFiles
pub mod Filled
