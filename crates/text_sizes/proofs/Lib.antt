pub mod Nesting
pub mod Bytes
pub mod Taken
pub mod Names
pub mod Whole
