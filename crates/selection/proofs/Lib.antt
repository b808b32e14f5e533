pub mod Nodes
pub mod BoxedForms
pub mod Whole
