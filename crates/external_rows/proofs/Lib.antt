pub mod Lookups
pub mod Walks
