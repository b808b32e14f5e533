pub mod Reloaded
pub mod Kept
pub mod Known
