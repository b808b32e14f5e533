pub mod Joining
pub mod Each
