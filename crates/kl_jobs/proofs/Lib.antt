pub mod JobEnds
pub mod Readings
pub mod KitLines
pub mod Written
pub mod BothSlots
pub mod KernelChecks
pub mod KernelEnds
pub mod KernelInstalls
