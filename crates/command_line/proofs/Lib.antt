mod Built
mod Cuts
mod Defaults
mod Entered
mod Gives
mod Matched
mod Numbers
pub mod Permuted
mod Tested
pub mod Unique
mod Walked
