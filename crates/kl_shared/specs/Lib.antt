pub mod LibraryLinks
pub mod Stubs
