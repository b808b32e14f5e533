pub mod Ordered
pub mod Found
pub mod Choice
pub mod Fold
pub mod Counting
pub mod Indexed
pub mod Urgent
pub mod Turn
