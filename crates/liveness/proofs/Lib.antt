pub mod Lists
pub mod Graph
pub mod Bounds
pub mod Counting
pub mod Loop
pub mod Steps
