pub mod Rules
pub mod Spelling
pub mod Grammar
pub mod Lexing
pub mod Alike
