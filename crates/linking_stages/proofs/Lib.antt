pub mod Chain
pub mod Regular
pub mod Selected
pub mod Walking
