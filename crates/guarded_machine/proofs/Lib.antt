pub mod Needs
pub mod Runs
