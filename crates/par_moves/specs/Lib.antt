pub mod Index
pub mod Moves
pub mod Resolved
