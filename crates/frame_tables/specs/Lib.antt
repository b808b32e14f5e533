pub mod Described
pub mod Points
pub mod Pushed
