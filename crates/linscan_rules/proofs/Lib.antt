pub mod Scan
pub mod Rows
pub mod Sharing
pub mod Contract
pub mod Calls
pub mod Tables
pub mod Graphs
