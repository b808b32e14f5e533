pub mod AtPlaces
pub mod Bytes
pub mod Needs
