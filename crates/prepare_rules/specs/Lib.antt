pub mod Prepared
pub mod Stages
pub mod Known
