pub mod Bytes
pub mod Cells
pub mod Symbols
pub mod Lists
pub mod Found
pub mod First
pub mod Known
