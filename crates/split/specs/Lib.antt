pub mod Writes
pub mod Reach
pub mod Joins
pub mod Names
