pub mod Words
pub mod Heap
pub mod Values
pub mod Stands
pub mod Waiting
pub mod Young
pub mod Service
