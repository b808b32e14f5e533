pub mod Named
pub mod Stack
pub mod Laid
pub mod Decoded
