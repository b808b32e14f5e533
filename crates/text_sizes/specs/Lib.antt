pub mod Measures
pub mod Held
