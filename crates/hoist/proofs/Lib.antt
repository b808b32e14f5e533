pub mod Reaching
pub mod Counting
pub mod Once
pub mod Rebuilt
pub mod Moving
pub mod Flags
