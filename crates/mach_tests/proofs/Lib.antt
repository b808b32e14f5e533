pub mod Wide
pub mod Tested
