pub mod HaveCases
pub mod Selecting
pub mod Symbols
pub mod DataBytes
pub mod Beginning
pub mod Promised
pub mod Room
pub mod Known
