pub mod Labels
pub mod Nodes
pub mod Numbers
