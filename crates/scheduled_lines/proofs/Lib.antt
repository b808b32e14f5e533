pub mod InStep
pub mod Runs
pub mod Walks
pub mod Forms
pub mod Points
pub mod Tidy
pub mod Lines
pub mod Sizes
