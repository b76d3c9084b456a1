pub mod Pieces
pub mod Digits
pub mod Accepted
pub mod Faults
