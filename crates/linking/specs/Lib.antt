pub mod Program
pub mod Keeps
pub mod Pace
pub mod Carries
pub mod Assembled
