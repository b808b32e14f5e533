pub mod Fits
pub mod Accepted
