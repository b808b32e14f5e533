pub mod Renamed
pub mod Writes
pub mod Order
pub mod Split
