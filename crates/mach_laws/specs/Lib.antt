pub mod Expand
pub mod Graph
pub mod Passes
