pub mod Contents
pub mod Fits
pub mod External
pub mod Memory
pub mod Observed
pub mod Operators
pub mod Symbol
pub mod Word
