pub mod Form
pub mod Standing
pub mod Live
pub mod Held
pub mod Kept
pub mod One
pub mod Whole
