pub mod Slots
pub mod Ends
pub mod Tries
pub mod Exits
pub mod Placed
pub mod Known
