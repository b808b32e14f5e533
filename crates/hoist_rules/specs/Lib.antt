pub mod Hoisted
pub mod Chosen
pub mod Known
