pub mod Commands
pub mod Done
pub mod Exits
pub mod Answers
