mod Answers
mod Checking
pub mod Drawn
pub mod Ending
mod LastLine
mod Listing
pub mod Reading
mod Refused
mod Running
mod Soaking
pub mod Spelled
pub mod Known
