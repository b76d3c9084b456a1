pub mod Together
pub mod Batches
pub mod Laws
