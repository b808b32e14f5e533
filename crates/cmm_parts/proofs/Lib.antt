pub mod Lengths
pub mod Lists
pub mod Loops
pub mod Symbols
pub mod Takings
