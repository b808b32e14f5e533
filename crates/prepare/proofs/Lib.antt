pub mod Stages
pub mod Known
