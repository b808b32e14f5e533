pub mod Keeps
pub mod Leaving
pub mod Regular
pub mod Turning
pub mod Redirecting
pub mod Vals
pub mod Tidied
