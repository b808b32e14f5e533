pub mod Places
pub mod Rest
