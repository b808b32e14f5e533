pub mod Bits
pub mod Set
pub mod Words
