pub mod Coming
mod Running
mod Following
mod Whole
mod Directions
mod Fewer
mod Known
pub mod Image
