pub mod Sums
pub mod Weights
pub mod Selected
