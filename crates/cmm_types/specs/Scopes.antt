-- Names in scope, as the code holds them.
use Rattle.std.specs.Prelude.{ℕ, List}
use Rattle.cmm_types.specs.Types.{Scoped}
use Rattle.cmm_types.specs.Standing.{Visible}
use Rattle.cmm_types.specs.declared.names.Meaning.{Meaning}

-- a name in scope with this meaning
abbrev pub scoped : List ℕ → Meaning → Scoped
scoped name meaning = record { name = name; type = meaning.ty; mutable = meaning.mutable }

abbrev pub meaning_of : Scoped → Meaning
meaning_of s = record { ty = s.type; mutable = s.mutable }

abbrev pub parameters_of_label : Visible → ℕ
parameters_of_label v = v.parameters
