pub mod Inside
pub mod ItemLists
pub mod Texts
pub mod One
pub mod Symbols
pub mod Telling
pub mod Measured
