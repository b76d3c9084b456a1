pub mod RoomyLinks
