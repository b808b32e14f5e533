pub mod Takes
pub mod FieldLaws
pub mod RowLaws
pub mod Rules
pub mod PartLaws
pub mod ImageLaws
