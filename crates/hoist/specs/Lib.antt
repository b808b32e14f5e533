pub mod Constants
pub mod Loops
pub mod Written
pub mod Moves
