-- No walk comes to the end of the code: each part with a line after it to which one comes begins before the end.
use Rattle.std.proofs.Common.{◌≡◌, ℕ, ◌+◌, ◌<◌, ◌≤◌, Bool, true, false, cond, nat_lt, List, [], ◌∷◌, ◌++◌, ◌⊎◌, inl, inr, ⊎_elim, length, drop, refl, ap, arith}
use Rattle.std.proofs.lemmas.Bool.{lt-ltb}
use Rattle.rv_emit_rules.specs.Emitted.{descriptor, parts_of_lines}
use Rattle.rv_emit_rules.specs.Entry.{FrameLayout}
use Rattle.rv_emit_rules.specs.Sizes.{words_at_least}
use Rattle.rv_emit_rules.specs.Units.{is_free_exit}
use Rattle.rv_emit_rules.proofs.Acts.{ActsAt, falls_act, part_acts}
use Rattle.rv_emit_rules.proofs.Units.{free_is_exit, part_unless_free}
use Rattle.rv_layout_rules.specs.declared.form.Form.{Form}
use Rattle.rv_layout_rules.specs.Forms.{total_words}
use Rattle.rv_layout_rules.specs.Stands.{HasPieces}
use Rattle.rv_layout_rules.specs.Words.{NameAddresses}
use Rattle.lin_ir.specs.Meaning.{passes_frame}
use Rattle.lin_ir.specs.Walks.{Reached, by_step, goes, targets, tries_after}
use Rattle.lin_ir.specs.declared.descr.Descr.{Descr}
use Rattle.lin_ir.specs.declared.lin.Flow.TheVariants as flow
use Rattle.lin_ir.specs.declared.lin.Lin.{Lin}
use Rattle.lin_ir.specs.declared.lin.Line.{Line}
use Rattle.lin_ir.specs.declared.lin.LinOp.{LinOp}
use Rattle.lin_ir.specs.declared.lin.LinOp.TheVariants as lin
use Rattle.lin_ir.specs.declared.lin.Spot.{Spot}
use Rattle.linearise_rules.proofs.Walked.{Tail, tail_all, tail_more}
use Rattle.mach_ir.specs.Acts.{On}
use Rattle.mach_ir.specs.Walks.{OneOf, this}
use Rattle.mach_ir.specs.declared.op.Access.TheVariants as access
use Rattle.mach_ir.specs.declared.op.Calling.TheVariants as calling
use Rattle.mach_ir.specs.declared.op.Op.TheVariants as op
use Rattle.function_stands.proofs.Parts.{Place, left_in, part_in, place_within}
use Rattle.function_stands.proofs.Splitting.{has_first, has_second, least, words_both, words_first}

-- a line goes on, or has an instruction
on_or_acts : (g : LinOp) (args results : List Spot) → OneOf On (targets g) ⊎ ActsAt g args results
on_or_acts (lin.Flow (flow.Label l)) args results = inl this
on_or_acts (lin.Flow (flow.Jump l)) args results = inr tt
on_or_acts (lin.Flow (flow.Exit l)) args results = inr tt
on_or_acts (lin.Flow (flow.Branch t l)) args results = inl this
on_or_acts (lin.Flow (flow.Switch ls)) args results = inr tt
on_or_acts (lin.Flow (flow.PushTrap l)) args results = inl this
on_or_acts (lin.Flow flow.PopTrap) args results = inl this
on_or_acts (lin.Flow flow.EnterTrap) args results = inl this
on_or_acts (lin.Op (op.Pure g)) args results = inl this
on_or_acts (lin.Op (op.Access g)) args results = inl this
on_or_acts (lin.Op (op.Calling g)) args results = inr tt
on_or_acts (lin.Op (op.Leaving g)) args results = inr tt

-- a line that is a frame point goes on
pub points_go_on : (g : LinOp) → passes_frame g ≡ true → OneOf On (targets g)
points_go_on (lin.Flow g) e = cc
points_go_on (lin.Op (op.Pure g)) e = cc
points_go_on (lin.Op (op.Access (access.Load k offset))) e = cc
points_go_on (lin.Op (op.Access (access.Store k offset))) e = cc
points_go_on (lin.Op (op.Access (access.Alloc blocks))) e = this
points_go_on (lin.Op (op.Calling (calling.Call whom result))) e = this
points_go_on (lin.Op (op.Calling (calling.TailCall whom result))) e = cc
points_go_on (lin.Op (op.Calling (calling.External row frame))) e = this
points_go_on (lin.Op (op.Leaving g)) e = cc

module _ (words : List ℕ) (n : NameAddresses) (traps : ℕ → ℕ) (f : FrameLayout) (m : Lin) (unended : (tries : List ℕ) → Reached m [] tries → ⊥) where
  -- code that a walk comes to has an instruction
  some_words : (ds : List Descr) (code : List Line) (fs : List Form) (at' : ℕ) (tries : List ℕ) → Reached m code tries →
      HasPieces words n at' (parts_of_lines traps f ds code) fs → 1 ≤ total_words (parts_of_lines traps f ds code) fs
  some_words ds [] fs at' tries reached has = absurd (unended tries reached)
  some_words ds (i ∷ next) fs at' tries reached has =
      let part = part_in traps f ds i next in
      let rest = parts_of_lines traps f (left_in ds i) next in
      let both = words_both part rest fs in
      ⊎_elim (λ goes_on.
      let later = some_words (left_in ds i) next (drop (length part) fs) (at' + total_words part fs) (tries_after i.op tries)
      (by_step reached (goes On goes_on)) (has_second words n at' part rest fs has) in
      omega (arith, later, both)) (λ acts. by acts (is_free_exit i.op next) refl) (on_or_acts i.op i.args i.results)
    where
      by : ActsAt i.op i.args i.results → (b : Bool) → is_free_exit i.op next ≡ b → 1 ≤ total_words (parts_of_lines traps f ds (i ∷ next)) fs
      by acts true e =
          let part = part_in traps f ds i next in
          let rest = parts_of_lines traps f (left_in ds i) next in
          let exit = free_is_exit i.op next e in
          let some = falls_act traps f (left_in ds i) exit.to next exit.falls in
          let enough = least words n (at' + total_words part fs) rest _ (has_second words n at' part rest fs has) in
          omega (arith, some, enough, words_both part rest fs)
      by acts false e =
          let part = part_in traps f ds i next in
          let rest = parts_of_lines traps f (left_in ds i) next in
          let d = descriptor (passes_frame i.op) ds in
          let some = part_acts (traps (length next)) f d i.op i.args i.results acts in
          let same = ap words_at_least (part_unless_free (traps (length next)) f d i next e) in
          let enough = least words n at' part _ (has_first words n at' part rest fs has) in
          omega (arith, some, same, enough, words_first part fs, words_both part rest fs)

  cond_before : (b : Bool) (high x y : ℕ) → x < high → y < high → cond b x y < high
  cond_before true high x y h k = h
  cond_before false high x y h k = k

  -- so each part before such code begins before the end
  pub place_before : {suffix : List Line} {tries : List ℕ} (ds : List Descr) (code : List Line) (fs : List Form) (at at' k : ℕ) → Reached m suffix tries →
      Tail suffix code → length suffix ≤ k → HasPieces words n at' (parts_of_lines traps f ds code) fs →
      Place traps f ds code fs at k < at + total_words (parts_of_lines traps f ds code) fs
  place_before {tries = tries} ds [] fs at at' k reached tail_all h has = absurd (unended tries reached)
  place_before {tries = tries} ds (i ∷ next) fs at at' k reached tail_all h has =
      let part = part_in traps f ds i next in
      let some = some_words ds (i ∷ next) fs at' tries reached has in
      let e : Place traps f ds (i ∷ next) fs at k ≡ at =
      ap (λ b. cond b at (Place traps f (left_in ds i) next (drop (length part) fs) (at + total_words part fs) k)) (lt-ltb (length next) k h) in
      omega (arith, some, e)
  place_before ds (i ∷ next) fs at at' k reached (tail_more tail) h has =
      let part = part_in traps f ds i next in
      let rest = parts_of_lines traps f (left_in ds i) next in
      let left = drop (length part) fs in
      let both = words_both part rest fs in
      let later = place_before (left_in ds i) next left (at + total_words part fs) (at' + total_words part fs) k reached tail h
      (has_second words n at' part rest fs has) in
      let within = (place_within traps f (left_in ds i) next left (at + total_words part fs) k).0 in
      cond_before (nat_lt (length next) k) (at + total_words (part ++ rest) fs) at (Place traps f (left_in ds i) next left (at + total_words part fs) k)
      (omega (arith, later, within, both)) (omega (arith, later, both))
