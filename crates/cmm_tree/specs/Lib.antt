pub mod Tree
pub mod View
pub mod Place
pub mod Rows
pub mod Symbols
pub mod Measures
