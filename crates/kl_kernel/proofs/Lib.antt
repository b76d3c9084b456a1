pub mod KernelMade
pub mod OneTargets
pub mod KernelCarries
