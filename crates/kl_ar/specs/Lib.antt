pub mod Fields
pub mod Names
pub mod Archives
pub mod Grammar
pub mod Readers
