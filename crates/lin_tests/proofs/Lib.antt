pub mod Depths
pub mod Locations
