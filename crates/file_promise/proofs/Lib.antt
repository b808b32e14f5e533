pub mod Bytes
pub mod Once
pub mod Made
pub mod Promise
pub mod Known
pub mod Agree
