pub mod Flows
pub mod Uses
pub mod Events
pub mod Last
pub mod Times
pub mod Made
pub mod Repeats
pub mod Copies
