pub mod Text
pub mod Formed
pub mod Walked
pub mod Kept
pub mod Whole
pub mod Result
pub mod One
pub mod Known
