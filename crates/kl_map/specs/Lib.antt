pub mod MapText
pub mod Spelling
pub mod MapForm
pub mod Outside
pub mod Reading
