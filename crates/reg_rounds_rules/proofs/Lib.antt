pub mod Feeding
pub mod Grown
pub mod Kept
pub mod Graphs
pub mod Once
