pub mod Grouping
pub mod Joining
pub mod Renaming
pub mod Members
pub mod Reaching
pub mod Named
