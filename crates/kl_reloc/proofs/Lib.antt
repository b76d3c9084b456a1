pub mod Rows
pub mod Extended
