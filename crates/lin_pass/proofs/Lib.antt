pub mod Named
pub mod Promised
pub mod Room
pub mod Once
