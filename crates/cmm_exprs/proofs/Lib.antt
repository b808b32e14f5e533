pub mod FirstTokens
pub mod Readings
pub mod Repeating
pub mod Repeats
pub mod Steps
pub mod Takings
