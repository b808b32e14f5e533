pub mod Straight
pub mod Orders
pub mod Keeps
pub mod Example
