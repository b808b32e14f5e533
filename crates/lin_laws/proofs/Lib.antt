pub mod Places
pub mod Walking
pub mod Reaching
pub mod Unique
pub mod Numbers
pub mod Entries
pub mod Forms
