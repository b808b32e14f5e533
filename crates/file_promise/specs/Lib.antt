pub mod Known
pub mod Agree
