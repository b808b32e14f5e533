-- The row of an external call by the types that the code's tree holds.
use Rattle.std.specs.Prelude.{List, [], ◌∷◌}
use Rattle.bs_words.specs.declared.types.Comp.{Comp}
use Rattle.cmm_data.specs.Known.{Row_of-Expr, end_of-Expr, more_of-Expr}
use Rattle.cmm_types.specs.Types.{comp_of_argument}

-- the components of the arguments
abbrev pub comps_held : {m : _} → Row_of-Expr m → List Comp
comps_held end_of-Expr = []
comps_held (more_of-Expr at type f rest) = comp_of_argument type ∷ comps_held rest
