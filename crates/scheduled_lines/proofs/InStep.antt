-- Code and the code with its runs reordered, place by place; and walks of both.
use Rattle.std.proofs.Common.{◌≡◌, ℕ, suc, Bool, true, false, cond, List, [], ◌∷◌, ◌++◌, length, refl, sym, ap, ◌∙◌, subst, arith}
use Rattle.std.proofs.lemmas.Bool.{true≢false}
use Rattle.mach_ir.specs.Acts.{Target, On, At}
use Rattle.mach_ir.specs.Walks.{OneOf}
use Rattle.lin_ir.specs.Meaning.{after_label, code_at, has_label}
use Rattle.lin_ir.specs.Walks.{targets, may_raise, tries_after, Reached, at_entry, by_step, by_raise, Traps, by_walk, unreached}
use Rattle.lin_ir.specs.Walks as walks
use Rattle.lin_ir.specs.declared.lin.Line.{Line}
use Rattle.lin_ir.specs.declared.lin.Lin.{Lin}
use Rattle.linearise_rules.proofs.Walked.{Tail, tail_all, tail_more, reached_tail}
use Rattle.lin_tidy_rules.proofs.Ends.{same_tail}
use Rattle.schedule_rules.specs.Straight.{is_plain}
use Rattle.schedule_rules.specs.Orders.{are_plain, Rest, rest_ends, rest_line, Ordered, ordered}
use Rattle.schedule_rules.proofs.Living.{plain_label, plain_on, plain_only, plain_quiet, plain_tries}
use Rattle.schedule_rules.proofs.Reorder.{and_left, and_right, reorders_length, reorders_plain}

-- At each place both have the same line, or both one that may stand within a run.
pub data InStep : List Line → List Line → Type 0 where
  both_end : InStep [] []
  both_plain : {i j : Line} {is js : List Line} → is_plain i.op ≡ true → is_plain j.op ≡ true → InStep is js → InStep (i ∷ is) (j ∷ js)
  same_line : {i : Line} {is js : List Line} → InStep is js → InStep (i ∷ is) (i ∷ js)

pub turned : {code other : List Line} → InStep code other → InStep other code
turned both_end = both_end
turned (both_plain p q s) = both_plain q p (turned s)
turned (same_line s) = same_line (turned s)

pub same_length : {code other : List Line} → InStep code other → length code ≡ length other
same_length both_end = refl
same_length (both_plain p q s) = ap suc (same_length s)
same_length (same_line s) = ap suc (same_length s)

-- ---- code with its runs reordered

pub runs_in_step : (xs ys : List Line) {is js : List Line} → are_plain xs ≡ true → are_plain ys ≡ true → length ys ≡ length xs → InStep is js → InStep (xs ++ is) (ys ++ js)
runs_in_step [] [] p q e s = s
runs_in_step [] (y ∷ ys) p q e s = absurd (omega (arith, e))
runs_in_step (x ∷ xs) [] p q e s = absurd (omega (arith, e))
runs_in_step (x ∷ xs) (y ∷ ys) p q e s = both_plain (and_left _ _ p) (and_left _ _ q) (runs_in_step xs ys (and_right _ _ p) (and_right _ _ q) (omega (arith, e)) s)

pub rest_in_step : {is js : List Line} → Rest is js → InStep is js
rest_in_step rest_ends = both_end
rest_in_step (rest_line i xs ys n p o t) = same_line (runs_in_step xs ys p (reorders_plain xs ys o p) (reorders_length xs ys o) (rest_in_step t))

pub in_step : {code other : List Line} → Ordered code other → InStep code other
in_step (ordered xs ys is js p o t) = runs_in_step xs ys p (reorders_plain xs ys o p) (reorders_length xs ys o) (rest_in_step t)

-- ---- places

-- what follows a label in both
pub label_in_step : (l : ℕ) {code other : List Line} → InStep code other → InStep (after_label l code) (after_label l other)
label_in_step l both_end = both_end
label_in_step l (both_plain {i = i} {j = j} {is = is} {js = js} p q s) =
    subst (λ b. InStep (cond b is (after_label l is)) (after_label l (j ∷ js))) (sym (plain_label l i.op p))
    (subst (λ b. InStep (after_label l is) (cond b js (after_label l js))) (sym (plain_label l j.op q)) (label_in_step l s))
label_in_step l (same_line {i = i} {is = is} {js = js} s) = by (has_label l i.op) (label_in_step l s)
  where
    by : (b : Bool) → InStep (after_label l is) (after_label l js) → InStep (cond b is (after_label l is)) (cond b js (after_label l js))
    by true ih = s
    by false ih = ih

-- the place of the code that a place of the other stands for
pub record Beside (code there : List Line) : Type 0 where
  pub place : List Line
  pub within : Tail place code
  pub together : InStep place there

beside_later : {i : Line} {code there : List Line} → Beside code there → Beside (i ∷ code) there
beside_later b = record { place = b.place; within = tail_more b.within; together = b.together }

pub beside : {there code other : List Line} → InStep code other → Tail there other → Beside code there
beside {code} s tail_all = record { place = code; within = tail_all; together = s }
beside (both_plain p q s) (tail_more t) = beside_later (beside s t)
beside (same_line s) (tail_more t) = beside_later (beside s t)

-- ---- walks

-- a walk of the second function comes to the place that stands for this one, with these traps
pub record Came (r : Lin) (code : List Line) (tries : List ℕ) : Type 0 where
  pub there : List Line
  pub together : InStep code there
  pub reached : Reached r there tries

module _ (m r : Lin) (whole : InStep m.code r.code) where
  on_line : {i : Line} {next there : List Line} {tries : List ℕ} → InStep (i ∷ next) there → Reached r there tries → (t : Target) → OneOf t (targets i.op) →
      Came r (code_at m.code next t) (tries_after i.op tries)
  on_line {i} {next} {tries = tries} (both_plain {j = j} {js = js} p q s) reached t o =
      subst (λ k. Came r (code_at m.code next k) (tries_after i.op tries)) (sym (plain_only i.op t p o))
      (subst (Came r next) (sym (plain_tries i.op tries p))
      (record {
        there = js;
        together = s;
        reached = subst (Reached r js) (plain_tries j.op tries q) (by_step reached (walks.goes On (plain_on j.op q)));
      }))
  on_line (same_line {js = js} s) reached On o = record { there = js; together = s; reached = by_step reached (walks.goes On o) }
  on_line (same_line s) reached (At l) o = record { there = after_label l r.code; together = label_in_step l whole; reached = by_step reached (walks.goes (At l) o) }

  aside : {i : Line} {next there : List Line} {h : ℕ} {tries : List ℕ} → InStep (i ∷ next) there → Reached r there (h ∷ tries) → may_raise i.op ≡ true →
      Came r (after_label h m.code) tries
  aside {i} (both_plain p q s) reached e = absurd (true≢false (sym e ∙ plain_quiet i.op p))
  aside {h = h} (same_line s) reached e = record { there = after_label h r.code; together = label_in_step h whole; reached = by_raise reached (walks.raises e) }

  -- Where a walk of the first comes, one of the second comes to the place that stands for it.
  pub came : {code : List Line} {tries : List ℕ} → Reached m code tries → Came r code tries
  came at_entry = record { there = r.code; together = whole; reached = at_entry }
  came (by_step x (walks.goes t o)) = let y = came x in on_line y.together y.reached t o
  came (by_raise x (walks.raises e)) = let y = came x in aside y.together y.reached e

  pub reached_there : {code there : List Line} {tries : List ℕ} → InStep code there → Tail there r.code → Reached m code tries → Reached r there tries
  reached_there {tries = tries} s t x =
      let y = came x in
      subst (λ k. Reached r k tries) (same_tail (reached_tail r y.reached) t (sym (same_length y.together) ∙ same_length s)) y.reached

module _ (m r : Lin) (whole : InStep m.code r.code) where
  pub traps_there : {code there : List Line} {tries : List ℕ} → InStep code there → Tail code m.code → Tail there r.code → Traps m code tries → Traps r there tries
  traps_there s w t (by_walk x) = by_walk (reached_there m r whole s t x)
  traps_there s w t (unreached out) = unreached (λ tries x. out tries (reached_there r m (turned whole) (turned s) w x))

  -- the traps of any place of the second are those of some place of the first
  pub traps_were : {there : List Line} {tries : List ℕ} → Traps r there tries → (was : List Line) × Traps m was tries
  traps_were (by_walk x) = let y = came r m (turned whole) x in (y.there, by_walk y.reached)
  traps_were (unreached out) = (m.code, by_walk at_entry)
