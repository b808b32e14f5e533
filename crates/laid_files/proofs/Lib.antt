pub mod Has
pub mod Marks
pub mod Functions
pub mod Laid
