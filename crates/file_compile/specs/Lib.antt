pub mod Accepted
pub mod Pieces
pub mod Listed
pub mod Known
pub mod Promised
