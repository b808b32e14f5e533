pub mod Carried
pub mod Ordered
pub mod Chained
pub mod Rooms
pub mod Known
