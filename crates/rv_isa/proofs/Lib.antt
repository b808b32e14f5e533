pub mod WordLaws
pub mod RoundTrip
pub mod Converse
mod KnownWords
