-- Where only exits lead back in the text, the number of lines that are left goes down.
use Rattle.std.proofs.Common.{◌≡◌, ◌≢◌, ℕ, suc, ◌<◌, false, List, ◌∷◌, length, ap, arith}
use Rattle.std.specs.List.{AllPairs}
use Rattle.mach_ir.specs.Acts.{Target, On, At}
use Rattle.mach_ir.specs.Walks.{OneOf}
use Rattle.lin_ir.specs.Formed.{goes_to, labels_in, is_exit, GoesDown}
use Rattle.lin_ir.specs.Meaning.{after_label, code_at}
use Rattle.lin_ir.specs.Walks as walks
use Rattle.lin_ir.specs.Walks.{targets, Reached, LineWalkStep, Raises}
use Rattle.lin_ir.specs.declared.lin.Line.{Line}
use Rattle.lin_ir.specs.declared.lin.Lin.{Lin}
use Rattle.linearise_rules.specs.Forward.{GoesForward}
use Rattle.linearise_rules.proofs.Homes.{IsIn, in_of}
use Rattle.linearise_rules.proofs.Walked.{Tail, tail_next, tail_stands, tail_label, reached_tail}
use Rattle.lin_tidy_rules.proofs.Ends.{tail_length, later_after}

module _ (m : Lin) (once : AllPairs (λ k l. k ≢ l) (labels_in m.code)) (forward : GoesForward m) where
  -- a label that is later
  fewer_after : (l : ℕ) {i : Line} {next : List Line} → Tail (i ∷ next) m.code → IsIn l (labels_in next) → length (after_label l m.code) < suc (length next)
  fewer_after l {i} {next} t z =
      let le = tail_length (tail_label l next) in
      let e = ap length (later_after l (tail_next t) once z) in
      omega (arith, le, e)

  pub goes_down : GoesDown m
  goes_down = record {
    order = λ n. n;
    labels = λ i next tries r e. omega arith;
    steps = λ i next to tries left r inside mark leads. step i next to tries left r inside leads;
    raises = λ i next to tries left r leads. raise i next to tries left r leads;
  }
    where
      target : (i : Line) (next : List Line) (t : Target) → Tail (i ∷ next) m.code → is_exit i.op ≡ false → OneOf t (targets i.op) →
          length (code_at m.code next t) < suc (length next)
      target i next On w inside o = omega arith
      target i next (At l) w inside o = fewer_after l w (in_of l (labels_in next) (forward.labels i next (tail_stands w) inside l (goes_to o)))

      step : (i : Line) (next to : List Line) (tries left : List ℕ) → Reached m (i ∷ next) tries → is_exit i.op ≡ false → LineWalkStep m i next tries to left →
          length to < suc (length next)
      step i next _ tries _ r inside (walks.goes t o) = target i next t (reached_tail m r) inside o

      raise : (i : Line) (next to : List Line) (tries left : List ℕ) → Reached m (i ∷ next) tries → Raises m i tries to left → length to < suc (length next)
      raise i next _ _ _ r (walks.raises {h = h} {tries = tries} e) =
          fewer_after h (reached_tail m r) (in_of h (labels_in next) (forward.handlers i next h tries r e))
