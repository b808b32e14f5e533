pub mod Measures
pub mod Carried
pub mod Known
