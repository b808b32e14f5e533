pub mod Told
pub mod Readings
pub mod OneFile
pub mod Answering
