pub mod Outputs
pub mod Frames
