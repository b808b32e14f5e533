pub mod Bounds
pub mod Starts
pub mod Sums
