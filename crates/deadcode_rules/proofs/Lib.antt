pub mod Text
pub mod Left
pub mod Live
pub mod Kept
pub mod Whole
