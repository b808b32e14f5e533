pub mod Alike
pub mod Choosing
pub mod Evaluated
pub mod Runs
