pub mod Sizes
pub mod Places
