pub mod Kept
pub mod Propagated
