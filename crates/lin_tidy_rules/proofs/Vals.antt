-- Where every operand and result is a val, a location is live as val where it was live as anything.
use Rattle.std.proofs.Common.{◌≡◌, ℕ, suc, Bool, true, false, cond, inl, inr, ⊎_elim, List, [], ◌∷◌, map, length, refl, sym, ap, ◌∙◌, subst}
use Rattle.std.specs.List.{Contains}
use Rattle.bs_words.specs.declared.types.Comp.{Comp}
use Rattle.bs_words.specs.declared.types.Comp.TheVariants as comp
use Rattle.bs_words.specs.declared.types.Loc.{Loc}
use Rattle.bs_words.proofs.Lists.{head_same, tail_same, none_there}
use Rattle.mach_ir.specs.Acts.{Target, On, At}
use Rattle.mach_ir.specs.Walks.{OneOf}
use Rattle.lin_ir.specs.Meaning.{has_label, after_label, code_at}
use Rattle.lin_ir.specs.Walks as walks
use Rattle.lin_ir.specs.Walks.{targets, may_raise, tries_after, Writes, Reached, at_entry, by_step, by_raise, Live, read, on, aside}
use Rattle.lin_ir.specs.declared.lin.Line.{Line}
use Rattle.lin_ir.specs.declared.lin.Lin.{Lin}
use Rattle.lin_ir.specs.declared.lin.Spot.{Spot}
use Rattle.linearise_rules.proofs.Homes.{IsIn, is_first, is_later, in_of, contains_of}
use Rattle.linearise_rules.proofs.Walked.{Tail, reached_tail}
use Rattle.lin_tidy_rules.specs.Vals.{as_val, line_as_vals, as_vals}
use Rattle.lin_tidy_rules.proofs.Ends.{same_tail}
use Rattle.lin_tidy_rules.proofs.Exact.{spot}

-- ---- operands and results

val_in : {l : Loc} {t : Comp} {ss : List Spot} → IsIn (spot l t) ss → IsIn (spot l comp.Val) (map as_val ss)
val_in is_first = is_first
val_in (is_later z) = is_later (val_in z)

val_of : (l : Loc) (t : Comp) (ss : List Spot) → IsIn (spot l t) (map as_val ss) → (k : Comp) × IsIn (spot l k) ss
val_of l t [] z = elim z [ ]
val_of l t (s ∷ ss) z = by (as_val s) refl (map as_val ss) z (λ u. val_of l t ss u)
  where
    by : (x : Spot) → as_val s ≡ x → (xs : List Spot) → IsIn (spot l t) (x ∷ xs) → (IsIn (spot l t) xs → (k : Comp) × IsIn (spot l k) ss) →
        (k : Comp) × IsIn (spot l k) (s ∷ ss)
    by x e xs is_first ih = (s.comp, subst (λ k. IsIn (spot k s.comp) (s ∷ ss)) (ap (λ (x : Spot). x.loc) e) is_first)
    by x e xs (is_later u) ih = let y = ih u in (y.0, is_later y.1)

writes_vals : (i : Line) (l : Loc) → Writes i l → Writes (line_as_vals i) l
writes_vals i l w = ⊎_elim (λ y. inl (comp.Val, contains_of (val_in (in_of (spot l y.0) i.results y.1)))) (λ d. inr d) w

writes_of : (i : Line) (l : Loc) → Writes (line_as_vals i) l → Writes i l
writes_of i l w =
    ⊎_elim (λ y. let x = val_of l y.0 i.results (in_of (spot l y.0) (map as_val i.results) y.1) in inl (x.0, contains_of x.1)) (λ d. inr d) w

module _ (m : Lin) where
  abbrev pub V : List Line → List Line
  V = map line_as_vals

  lines_same : (is js : List Line) → V is ≡ V js → length is ≡ length js
  lines_same is js e = sym (len is) ∙ ap length e ∙ len js
    where
      len : (is : List Line) → length (V is) ≡ length is
      len [] = refl
      len (i ∷ is) = ap suc (len is)

  label_vals : (l : ℕ) (is : List Line) → after_label l (V is) ≡ V (after_label l is)
  label_vals l [] = refl
  label_vals l (i ∷ is) = by (has_label l i.op) (label_vals l is)
    where
      by : (b : Bool) → after_label l (V is) ≡ V (after_label l is) → cond b (V is) (after_label l (V is)) ≡ V (cond b is (after_label l is))
      by true e = refl
      by false e = e

  target_vals : (next : List Line) (t : Target) → code_at (as_vals m).code (V next) t ≡ V (code_at m.code next t)
  target_vals next On = refl
  target_vals next (At l) = label_vals l m.code

  -- ---- walks

  pub reached_vals : {code : List Line} {tries : List ℕ} → Reached m code tries → Reached (as_vals m) (V code) tries
  reached_vals at_entry = at_entry
  reached_vals (by_step {i = i} {next = next} {tries = tries} r (walks.goes t o)) =
      subst (λ xs. Reached (as_vals m) xs (tries_after i.op tries)) (target_vals next t) (by_step (reached_vals r) (walks.goes t o))
  reached_vals (by_raise r (walks.raises {h = h} {tries = tries} e)) =
      subst (λ xs. Reached (as_vals m) xs tries) (label_vals h m.code) (by_raise (reached_vals r) (walks.raises e))

  record Split (is : List Line) (j : Line) (js : List Line) : Type 0 where
    line : Line
    next : List Line
    is_code : is ≡ line ∷ next
    is_line : line_as_vals line ≡ j
    is_next : V next ≡ js

  split : (is : List Line) (j : Line) (js : List Line) → V is ≡ j ∷ js → Split is j js
  split [] j js e = absurd (none_there e)
  split (i ∷ is) j js e =
      record { line = i; next = is; is_code = refl; is_line = head_same e; is_next = tail_same e }

  record Source (js : List Line) (tries : List ℕ) : Type 0 where
    code : List Line
    same : V code ≡ js
    reached : Reached m code tries

  source : {js : List Line} {tries : List ℕ} → Reached (as_vals m) js tries → Source js tries
  source at_entry = record { code = m.code; same = refl; reached = at_entry }
  source (by_step {i = j} {next = js} {tries = tries} r (walks.goes t o)) =
      let y = source r in
      let s = split y.code j js y.same in
      record {
        code = code_at m.code s.next t;
        same = sym (target_vals s.next t) ∙ ap (λ ks. code_at (as_vals m).code ks t) s.is_next;
        reached = subst (Reached m (code_at m.code s.next t)) (ap (λ (j : Line). tries_after j.op tries) s.is_line)
            (by_step (subst (λ is. Reached m is tries) s.is_code y.reached) (walks.goes t (subst (λ (j : Line). OneOf t (targets j.op)) (sym s.is_line) o)));
      }
  source (by_raise {i = j} {next = js} r (walks.raises {h = h} {tries = tries} e)) =
      let y = source r in
      let s = split y.code j js y.same in
      record {
        code = after_label h m.code;
        same = sym (label_vals h m.code);
        reached = by_raise (subst (λ is. Reached m is (h ∷ tries)) s.is_code y.reached) (walks.raises (ap (λ (j : Line). may_raise j.op) s.is_line ∙ e));
      }

  -- a walk comes to a place of the code where one comes to that place among vals
  pub reached_of : {code : List Line} {tries : List ℕ} → Tail code m.code → Reached (as_vals m) (V code) tries → Reached m code tries
  reached_of {code} {tries} w r =
      let y = source r in subst (λ is. Reached m is tries) (same_tail (reached_tail m y.reached) w (lines_same y.code code y.same)) y.reached

  -- ---- what is live

  pub live_vals : {l : Loc} {t : Comp} {code : List Line} {tries : List ℕ} → Live m l t code tries → Live (as_vals m) l comp.Val (V code) tries
  live_vals {l} {t} (read {i = i} x) = read (contains_of (val_in (in_of (spot l t) i.args x)))
  live_vals {l} {t} (on {i = i} {next = next} {tries = tries} free (walks.goes k o) v) =
      on (λ w. free (writes_of i l w)) (walks.goes k o)
      (subst (λ xs. Live (as_vals m) l comp.Val xs (tries_after i.op tries)) (sym (target_vals next k)) (live_vals v))
  live_vals {l} {t} (aside (walks.raises {h = h} {tries = tries} e) v) =
      aside (walks.raises e) (subst (λ xs. Live (as_vals m) l comp.Val xs tries) (sym (label_vals h m.code)) (live_vals v))

  pub live_of : {l : Loc} {t : Comp} {js : List Line} {tries : List ℕ} → Live (as_vals m) l t js tries → (is : List Line) → V is ≡ js →
      (k : Comp) × Live m l k is tries
  live_of {l} {t} (read {i = j} {next = js} {tries = tries} x) is e =
      let s = split is j js e in
      let y = val_of l t s.line.args (in_of (spot l t) (map as_val s.line.args) (subst (λ (j : Line). Contains j.args (spot l t)) (sym s.is_line) x)) in
      (y.0, subst (λ is. Live m l y.0 is tries) (sym s.is_code) (read (contains_of y.1)))
  live_of {l} {t} (on {i = j} {next = js} {tries = tries} free (walks.goes k o) v) is e =
      let s = split is j js e in
      let y = live_of v (code_at m.code s.next k) (sym (target_vals s.next k) ∙ ap (λ ks. code_at (as_vals m).code ks k) s.is_next) in (
        y.0,
        subst (λ is. Live m l y.0 is tries) (sym s.is_code)
            (on (λ w. subst (λ (j : Line). Writes j l → ⊥) (sym s.is_line) free (writes_vals s.line l w))
            (walks.goes k (subst (λ (j : Line). OneOf k (targets j.op)) (sym s.is_line) o))
            (subst (Live m l y.0 (code_at m.code s.next k)) (sym (ap (λ (j : Line). tries_after j.op tries) s.is_line)) y.1)),
      )
  live_of {l} {t} (aside {i = j} {next = js} (walks.raises {h = h} {tries = tries} x) v) is e =
      let s = split is j js e in
      let y = live_of v (after_label h m.code) (sym (label_vals h m.code)) in
      (y.0, subst (λ is. Live m l y.0 is (h ∷ tries)) (sym s.is_code) (aside (walks.raises (ap (λ (j : Line). may_raise j.op) s.is_line ∙ x)) y.1))
