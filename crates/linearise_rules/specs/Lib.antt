pub mod Lowered
pub mod Sizes
pub mod Kept
pub mod Keeps
pub mod Forward
