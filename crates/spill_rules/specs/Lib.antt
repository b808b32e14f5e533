pub mod Spilled
pub mod Chosen
