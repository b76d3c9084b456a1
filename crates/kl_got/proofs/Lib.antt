pub mod Once
pub mod Walked
pub mod Distances
