pub mod SelfMoves
pub mod Between
pub mod Useful
pub mod Flagged
