pub mod Stands
pub mod Turns
