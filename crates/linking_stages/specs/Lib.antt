pub mod Stages
pub mod Chain
