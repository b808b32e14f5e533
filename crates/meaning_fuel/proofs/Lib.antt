pub mod Alike
pub mod Choosing
pub mod Agreed
pub mod Depth
