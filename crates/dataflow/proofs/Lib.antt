mod Forms
pub mod Loops
mod Moves
pub mod Progress
mod Pushes
pub mod Steps
pub mod Sweeps
pub mod Visits
