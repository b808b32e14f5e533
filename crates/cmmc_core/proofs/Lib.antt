mod CheckEnds
mod CommandEnd
mod CompileEnds
mod Complete
mod ImageEnds
mod ListEnds
mod RunEnds
mod SoakEnds
mod TextKnown
pub mod Known
