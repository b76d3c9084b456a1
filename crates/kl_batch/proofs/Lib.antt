pub mod Placing
pub mod Prefixes
pub mod Matched
pub mod LibraryNames
