pub mod Room
pub mod Row
pub mod Scoping
pub mod Widths
pub mod Outlines
