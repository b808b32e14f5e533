pub mod Standing
pub mod Emitted
pub mod Compiled
pub mod Known
