pub mod Words
pub mod Orders
pub mod Views
pub mod Changes
