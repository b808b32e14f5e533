pub mod Folding
pub mod Giving
pub mod Keyed
pub mod Listing
pub mod Settling
pub mod Starting
pub mod Visiting
pub mod Widening
