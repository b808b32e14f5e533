pub mod Flags
pub mod Forms
