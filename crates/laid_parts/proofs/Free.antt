-- An exit that has no words names nothing, and nor does its line.
use Rattle.std.proofs.Common.{◌≡◌, ℕ, true, List, [], ◌∷◌, refl}
use Rattle.lin_ir.specs.Formed.{FlowHasForm, IsFormedLine, formed_flow, comps}
use Rattle.lin_ir.specs.Meaning.{passes_frame}
use Rattle.lin_ir.specs.declared.descr.Descr.{Descr}
use Rattle.lin_ir.specs.declared.lin.Flow.TheVariants as flow
use Rattle.lin_ir.specs.declared.lin.Lin.{Lin}
use Rattle.lin_ir.specs.declared.lin.Line.{Line}
use Rattle.lin_ir.specs.declared.lin.LinOp.{LinOp}
use Rattle.lin_ir.specs.declared.lin.LinOp.TheVariants as lin
use Rattle.lin_ir.specs.declared.lin.Spot.{Spot}
use Rattle.rv_emit_rules.specs.Emitted.{left_after}
use Rattle.rv_emit_rules.specs.Units.{is_free_exit}
use Rattle.rv_emit_rules.proofs.Units.{if_free}
use Rattle.laid_parts.specs.Laid.{IsPartOf, names, no_mark}
use Rattle.laid_parts.proofs.Each.{no_move}

module _ (m : Lin) (ds : List Descr) (next : List Line) where
  exit_part : (l : ℕ) (args results : List Spot) → FlowHasForm (flow.Exit l) (comps args) (comps results) →
      IsPartOf m ds ds (record { op = lin.Flow (flow.Exit l); args = args; results = results }) next []
  exit_part l [] [] h = record {
    registers = names (no_move refl) (record { reads = λ n e k. refl; writes = λ n e k. refl });
    slots = λ tries traps. names (no_move refl) (record { reads = λ c e. refl; writes = λ c e. refl });
    mark = no_mark refl;
    raises = tt;
  }
  exit_part l (x ∷ args) results h = elim h [ ]
  exit_part l [] (x ∷ results) h = elim h [ ]

  -- an exit, in any form
  abbrev AsPart : List Spot → List Spot → LinOp → Type 0
  AsPart args results o =
      IsFormedLine (record { op = o; args = args; results = results }) →
      IsPartOf m ds (left_after (passes_frame o) ds) (record { op = o; args = args; results = results }) next []

  formed_exit : (args results : List Spot) (l : ℕ) → AsPart args results (lin.Flow (flow.Exit l))
  formed_exit args results l (formed_flow h) = exit_part l args results h

  pub free_part : (i : Line) → IsFormedLine i → is_free_exit i.op next ≡ true → IsPartOf m ds (left_after (passes_frame i.op) ds) i next []
  free_part i formed e = if_free (AsPart i.args i.results) (formed_exit i.args i.results) i.op next e formed
