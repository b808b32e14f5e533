pub mod Runs
pub mod Selects
pub mod Known
