pub mod SoFar
pub mod Spelled
pub mod Grammar
pub mod Outside
