pub mod Bools
pub mod Joined
pub mod Kept
