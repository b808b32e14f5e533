pub mod Trimmed
pub mod Kept
