pub mod FileOf
