pub mod Selectable
pub mod Known
