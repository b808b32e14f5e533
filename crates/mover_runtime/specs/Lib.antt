pub mod Calling
pub mod Outcome
pub mod Schedules
pub mod Standing
pub mod Written
