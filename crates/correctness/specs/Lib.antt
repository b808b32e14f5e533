pub mod Setting
pub mod Correct
pub mod Measures
pub mod Bounds
pub mod InNeed
