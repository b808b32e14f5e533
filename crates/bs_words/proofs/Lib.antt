pub mod Below
pub mod Word
mod Rows
pub mod Lists
pub mod Truths
pub mod Places
pub mod Symbols
