pub mod Graphs
pub mod Tables
pub mod Sights
pub mod Registers
pub mod Runs
pub mod Mixed
pub mod Chosen
pub mod Moves
