pub mod TablesReadBack
pub mod CarriedOut
pub mod Reaching
pub mod ExportsFound
