pub mod Resumed
pub mod Operands
pub mod Ordered
pub mod Turns
pub mod Passing
pub mod Called
pub mod Ended
pub mod Leaving
