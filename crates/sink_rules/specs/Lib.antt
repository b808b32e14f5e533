pub mod Walks
pub mod Sunk
pub mod Chosen
pub mod Known
