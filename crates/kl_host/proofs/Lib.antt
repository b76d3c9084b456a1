pub mod Among
pub mod PathBytes
pub mod Folders
