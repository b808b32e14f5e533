pub mod Tables
pub mod Image
pub mod Seen
pub mod Fields
