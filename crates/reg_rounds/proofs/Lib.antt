pub mod Turns
pub mod Scanned
pub mod Known
