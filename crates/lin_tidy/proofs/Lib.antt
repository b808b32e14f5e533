pub mod Left
pub mod Loops
pub mod Sizes
pub mod Leading
pub mod Rounds
pub mod Known
