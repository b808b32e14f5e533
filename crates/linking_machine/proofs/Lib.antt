pub mod Carrying
pub mod Answering
pub mod Starting
pub mod Linked
pub mod Compiled
mod Example
pub mod Known
