pub mod Flow
pub mod Live
pub mod Progress
pub mod Reach
pub mod Rows
pub mod Spread
pub mod Sweep
