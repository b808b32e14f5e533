-- The names in scope that the entries of a stack stand for.
use Rattle.cmm_types.specs.Types.{Scoped}
use Rattle.cmm_types.specs.declared.names.Entry.{Entry}

abbrev pub scoped_view : Entry → Scoped
scoped_view e = record { name = e.name; type = e.meaning.ty; mutable = e.meaning.mutable }
