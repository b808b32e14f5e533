pub mod Points
pub mod Reaches
pub mod Leading
pub mod Calls
pub mod Laws
pub mod Known
