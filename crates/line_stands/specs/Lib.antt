pub mod Parts
pub mod Names
pub mod Lines
pub mod Known
