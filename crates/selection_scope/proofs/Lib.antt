pub mod Counts
pub mod Scopes
pub mod Innermost
pub mod Lasting
