pub mod Members
pub mod Moves
pub mod Pairs
pub mod Partners
pub mod Registers
pub mod Tables
