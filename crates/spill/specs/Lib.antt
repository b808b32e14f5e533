pub mod Tables
pub mod Graphs
pub mod Copies
