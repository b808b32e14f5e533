pub mod Lines
pub mod Effects
pub mod Compile
pub mod Run
pub mod Soak
pub mod Ends
pub mod Refusal
pub mod Known
