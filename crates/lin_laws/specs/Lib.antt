pub mod Graph
pub mod Numbers
