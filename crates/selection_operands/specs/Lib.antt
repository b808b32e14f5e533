pub mod Below
pub mod Calls
pub mod Operands
