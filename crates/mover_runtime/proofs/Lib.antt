pub mod Loaded
pub mod Asking
pub mod Retiring
pub mod Rows
pub mod Runs
pub mod Shown
pub mod Writing
mod FrameCalls
