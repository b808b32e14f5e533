pub mod Bounds
pub mod Steps
pub mod Walks
pub mod Made
pub mod Totals
pub mod Sized
pub mod Joined
