pub mod Word
pub mod Immediate
pub mod Rows
pub mod Encoding
pub mod Decoding
pub mod Registers
