pub mod Moved
pub mod Live
pub mod Entry
pub mod Kept
pub mod Whole
pub mod Carried
pub mod Chosen
pub mod Known
