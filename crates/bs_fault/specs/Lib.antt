pub mod Lines
pub mod FaultLines
pub mod Limits
pub mod Order
pub mod Reported
