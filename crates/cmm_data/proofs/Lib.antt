pub mod Items
pub mod Walk
pub mod Steps
pub mod Table
pub mod Laws
mod Cells
