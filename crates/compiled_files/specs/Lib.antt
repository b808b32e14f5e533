pub mod Forward
pub mod Image
pub mod Stages
