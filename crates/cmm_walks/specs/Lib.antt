pub mod Groups
pub mod Labels
pub mod Seeds
pub mod First
pub mod Refusal
