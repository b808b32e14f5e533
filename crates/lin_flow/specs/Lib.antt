pub mod Labels
pub mod Live
pub mod Nodes
pub mod Search
pub mod Sizes
pub mod Walked
