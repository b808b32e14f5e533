pub mod Integers
pub mod Cells
pub mod Outlines
