pub mod Relaxing
pub mod Offsets
pub mod Standing
pub mod Functions
pub mod Rules
