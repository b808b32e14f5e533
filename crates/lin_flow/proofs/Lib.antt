pub mod Lists
pub mod Searching
pub mod Visiting
pub mod Begun
pub mod Living
