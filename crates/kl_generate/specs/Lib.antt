pub mod GapRead
pub mod Generated
pub mod Made
pub mod MadeFile
pub mod MadeLinks
pub mod MadeRead
