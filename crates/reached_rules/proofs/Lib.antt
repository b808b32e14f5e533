pub mod Tries
pub mod Walked
pub mod Doing
pub mod Kept
