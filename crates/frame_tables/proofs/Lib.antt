pub mod Lists
pub mod Pointing
pub mod Deriving
pub mod Bounds
pub mod Composing
pub mod Pushing
