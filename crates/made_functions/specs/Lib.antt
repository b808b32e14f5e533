pub mod Made
pub mod Chained
pub mod Bounded
pub mod Files
pub mod Exact
pub mod Known
