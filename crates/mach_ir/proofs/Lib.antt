pub mod Runs
pub mod Keeping
pub mod Sums
pub mod Labels
pub mod Immediates
pub mod Forms
