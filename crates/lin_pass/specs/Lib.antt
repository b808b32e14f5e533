pub mod Linear
pub mod Known
