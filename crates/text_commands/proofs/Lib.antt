pub mod Passing
mod Words
mod Rows
mod Told
mod Entries
pub mod Called
mod Fitting
mod Compiled
mod Listed
pub mod Known
