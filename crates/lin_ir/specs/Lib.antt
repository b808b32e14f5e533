pub mod Meaning
pub mod Walks
pub mod Descriptors
pub mod Formed
pub mod Keeps
pub mod Text
pub mod Known
