pub mod Command
pub mod Program
pub mod Values
pub mod View
pub mod Words
