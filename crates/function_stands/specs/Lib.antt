pub mod Compiled
pub mod Functions
pub mod Known
