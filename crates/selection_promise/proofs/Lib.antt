pub mod Played
pub mod Bounds
pub mod Promised
pub mod Known
