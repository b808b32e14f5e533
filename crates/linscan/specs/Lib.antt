pub mod Held
pub mod Listed
pub mod Order
pub mod Seen
