pub mod Plans
pub mod Links
