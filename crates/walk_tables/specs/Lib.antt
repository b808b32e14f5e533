pub mod Walks
pub mod AddrLive
pub mod Table
pub mod Cells
pub mod Sound
pub mod Found
pub mod Leaving
pub mod Made
