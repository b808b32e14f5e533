pub mod Moved
pub mod Callees
pub mod Externals
