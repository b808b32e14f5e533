pub mod Backward
pub mod Falling
pub mod Highest
pub mod Picking
pub mod Sorting
