pub mod Said
pub mod Registers
pub mod Lines
