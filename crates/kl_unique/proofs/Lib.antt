pub mod Fixed
pub mod SameHeaders
pub mod SameFields
pub mod SameParts
pub mod Bare
pub mod SameFiles
pub mod OneImages
