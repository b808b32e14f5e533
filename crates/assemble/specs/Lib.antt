pub mod Source
pub mod Sizes
pub mod Code
