pub mod Placement
pub mod Faults
pub mod Contents
pub mod Symbols
pub mod Filling
pub mod Map
pub mod Known
