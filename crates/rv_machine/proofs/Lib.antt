mod Rows
pub mod Arguments
pub mod Bytes
pub mod Bytes64
pub mod Found
pub mod Halves
pub mod LowHalf
pub mod Marks
pub mod Young
