pub mod Combined
pub mod Neighbours
pub mod Kept
