pub mod Placed
pub mod Held
pub mod Externals
pub mod Limits
pub mod Whole
