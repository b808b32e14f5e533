pub mod Instructions
pub mod Select
pub mod Kept
pub mod Bounded
pub mod Follow
pub mod Selected
