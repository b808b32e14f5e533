pub mod Scan
pub mod Ranges
pub mod Rows
pub mod Contract
pub mod Table
