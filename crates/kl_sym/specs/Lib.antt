pub mod Leads
pub mod Targets
pub mod NameFaults
pub mod SectionLines
pub mod Defined
pub mod Linkage
pub mod Shows
pub mod UsedNames
