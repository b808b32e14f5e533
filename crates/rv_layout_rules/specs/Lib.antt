pub mod Forms
pub mod Words
pub mod Externals
pub mod Laid
pub mod TooLarge
pub mod Conditions
pub mod Stands
pub mod Known
