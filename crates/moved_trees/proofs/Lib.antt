pub mod Types
pub mod Codes
pub mod Rows
