mod Bit
mod Loops
mod Members
pub mod Sets
