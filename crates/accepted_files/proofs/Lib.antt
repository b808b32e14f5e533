pub mod Spelled
pub mod Counted
pub mod Differ
pub mod Calls
pub mod Few
pub mod Files
pub mod Defined
pub mod Known
