pub mod ItemParts
pub mod Text
pub mod Telling
