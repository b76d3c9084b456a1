pub mod FileMap
pub mod Record
pub mod Told
pub mod Mem
pub mod Picked
pub mod Lists
pub mod Fuses
