-- The function in which every operand and result is a val: walks go as they did, and a location is
-- live as val where it was live as anything.
use Rattle.std.specs.Prelude.{map}
use Rattle.bs_words.specs.declared.types.Comp.TheVariants as comp
use Rattle.lin_ir.specs.declared.lin.Spot.{Spot}
use Rattle.lin_ir.specs.declared.lin.Line.{Line}
use Rattle.lin_ir.specs.declared.lin.Lin.{Lin}
use Rattle.lin_tidy_rules.specs.Leaving.{with_code}

abbrev pub as_val : Spot → Spot
as_val s = record { loc = s.loc; comp = comp.Val }

abbrev pub line_as_vals : Line → Line
line_as_vals i = record { op = i.op; args = map as_val i.args; results = map as_val i.results }

abbrev pub as_vals : Lin → Lin
as_vals m = with_code m (map line_as_vals m.code)
