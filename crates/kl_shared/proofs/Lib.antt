pub mod GraphTexts
pub mod LoaderFaults
pub mod Linked
pub mod StubArea
pub mod StubRoom
pub mod LibraryCarries
