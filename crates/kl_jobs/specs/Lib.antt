pub mod Reading
pub mod Seeds
pub mod Refusals
pub mod Links
pub mod Writing
pub mod Start
pub mod Kernels
pub mod Recovery
