pub mod Sizes
pub mod Targets
pub mod Loops
pub mod Known
