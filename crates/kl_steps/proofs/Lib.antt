pub mod AreaAddresses
pub mod Sources
pub mod LinkFaults
pub mod LinkSteps
pub mod RoomyValues
pub mod RoomyFields
pub mod NameFaults
pub mod RoomyKits
