pub mod Lengths
pub mod Texts
pub mod Loops
mod KnownImages
pub mod Differ
