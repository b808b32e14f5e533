-- How far loops reach, as far as a code is read.
use Rattle.std.proofs.Common.{◌≡◌, ◌↔◌, ◌∙◌, ◌⊎◌, inl, inr, ⊎_elim, ℕ, suc, ◌+◌, ◌<◌, ◌≤◌, max, Bool, true, false, cond, ◌&&◌, List, [], ◌∷◌, ◌++◌, Option, Some, None, length, refl, sym, ap, subst, arith}
use Rattle.std.specs.Prelude.{slice_get, nat_eq, nat_lt, nat_le}
use Rattle.std.proofs.lemmas.Bool.{cases_lt, ltb-true, lt-ltb, leb-true, le-leb, and_parts}
use Rattle.std.proofs.lemmas.Bool.Decides.{eqb_tells}
use Rattle.std.proofs.lemmas.List.{get_or_append_left, get_or_push, length-append}
use Rattle.std.proofs.lemmas.Option.{slice_get_within}
use Rattle.mach_ir.specs.Labels.{label_of}
use Rattle.mach_ir.specs.Meaning.{Everything, destroyed_by}
use Rattle.mach_ir.specs.declared.mach.Instr.{Instr}
use Rattle.hoist.specs.Constants.{makes_wide}
use Rattle.hoist.specs.Loops.{exit_of, IsAbove, IsExitTo, AreEnds, end_noted, end_by, loop_end, EndsFrom, IsCalmWide, is_calm_wide, flag_at, AreFlags}

pub same_item : {X : Type 0} (o : Option X) (x y : X) → o ≡ Some x → o ≡ Some y → x ≡ y
same_item o x y e h = cc

-- what is at this place or before it
pub this_or_before : (q p : ℕ) → q < suc p → (q ≡ p) ⊎ (q < p)
this_or_before q p lt = by (cases_lt q p)
  where
    by : (q < p) ⊎ (p ≤ q) → (q ≡ p) ⊎ (q < p)
    by (inl h) = inr h
    by (inr h) = let e : q ≡ p = omega (arith, lt, h) in inl e

next : (p : ℕ) → suc p ≡ p + 1
next p = omega arith

-- ---- the first call

pub calls_more : (code : List Instr) (p : ℕ) (i : Instr) → slice_get code p ≡ Some i → (destroyed_by i.op ≡ Everything → ⊥) →
    ((q : ℕ) (j : Instr) → q < p → slice_get code q ≡ Some j → destroyed_by j.op ≡ Everything → ⊥) →
    (q : ℕ) (j : Instr) → q < suc p → slice_get code q ≡ Some j → destroyed_by j.op ≡ Everything → ⊥
calls_more code p i at calm none q j lt there d =
    ⊎_elim
    (λ e.
    calm (subst (λ (i : Instr). destroyed_by i.op ≡ Everything)
    (same_item (slice_get code p) j i (ap (slice_get code) (sym e) ∙ there) at) d))
    (λ h. none q j h there d) (this_or_before q p lt)

-- ---- greatest numbers

pub same_above : (P Q : ℕ → Type 0) (n : ℕ) → ((k : ℕ) → P k → Q k) → ((k : ℕ) → Q k → P k) → IsAbove P n → IsAbove Q n
same_above P Q n f g a =
    record {
      above = λ k q. a.above k (g k q);
      least = ⊎_elim (λ e. inl e) (λ w. inr (w.0, w.1, f w.0 w.2)) a.least;
    }

-- the greatest one, where there is one
pub greatest : (P : ℕ → Type 0) (n : ℕ) → IsAbove P n → 0 < n → (k : ℕ) × (n ≡ suc k) × P k
greatest P n a some = ⊎_elim (λ e. absurd (omega (arith, e, some))) (λ w. w) a.least

-- ---- the last exits

-- an exit before a place
abbrev pub ExitBefore : List Instr → ℕ → ℕ → ℕ → Type 0
ExitBefore code p l e = (e < p) × IsExitTo code l e

-- the last exit to each label, as far as the code is read
pub record EndsBefore (code : List Instr) (p : ℕ) (ends : ℕ → ℕ) : Type 0 where
  pub each : (l : ℕ) → IsAbove (ExitBefore code p l) (ends l)

later : (p q : ℕ) → p < q → p < suc q
later p q lt = omega (arith, lt)

now : (p : ℕ) → p < suc p
now p = omega arith

module _ (code : List Instr) (p : ℕ) (i : Instr) (at : slice_get code p ≡ Some i) where
  -- where no exit to the label is here
  same_end : (l n : ℕ) → (exit_of i.op ≡ Some l → ⊥) → IsAbove (ExitBefore code p l) n → IsAbove (ExitBefore code (suc p) l) n
  same_end l n other =
      same_above (ExitBefore code p l) (ExitBefore code (suc p) l) n (λ k w. (later k p w.0, w.1))
      (λ k w. (
        ⊎_elim (λ e. absurd (other (here k e w.1))) (λ h. h) (this_or_before k p w.0),
        w.1,
      ))
    where
      here : (k : ℕ) → k ≡ p → IsExitTo code l k → exit_of i.op ≡ Some l
      here k e x =
          ap (λ (j : Instr). exit_of j.op) (same_item (slice_get code p) i x.instr at (ap (slice_get code) (sym e) ∙ x.at)) ∙ x.exit

  new_end : (l : ℕ) → exit_of i.op ≡ Some l → IsAbove (ExitBefore code (suc p) l) (suc p)
  new_end l e =
      record {
        above = λ k w. w.0;
        least = inr (p, refl, (now p, record { instr = i; at = at; exit = e }));
      }

  noted_end : (old : ℕ → ℕ) → EndsBefore code p old → (o : Option ℕ) → exit_of i.op ≡ o → (n : ℕ) →
      IsAbove (ExitBefore code (suc p) n) (end_noted o (suc p) old n)
  noted_end old b None e n = same_end n (old n) (λ h. cc) (b.each n)
  noted_end old b (Some l) e n = by (eqb_tells l n)
    where
      by : ((nat_eq l n ≡ true) × (l ≡ n)) ⊎ ((nat_eq l n ≡ false) × (l ≡ n → ⊥)) →
          IsAbove (ExitBefore code (suc p) n) (cond (nat_eq l n) (suc p) (old n))
      by (inl t) =
          subst (IsAbove (ExitBefore code (suc p) n)) (sym (ap (λ b. cond b (suc p) (old n)) t.0))
          (new_end n (e ∙ ap (λ l. Some l) t.1))
      by (inr t) =
          subst (IsAbove (ExitBefore code (suc p) n)) (sym (ap (λ b. cond b (suc p) (old n)) t.0))
          (same_end n (old n) (λ h. t.1 cc) (b.each n))

  pub ends_more : (old new : ℕ → ℕ) → ((n : ℕ) → new n ≡ end_noted (exit_of i.op) (p + 1) old n) → EndsBefore code p old →
      EndsBefore code (p + 1) new
  ends_more old new put b =
      subst (λ q. EndsBefore code q new) (next p)
      (record {
        each = λ n.
            subst (IsAbove (ExitBefore code (suc p) n)) (sym (put n ∙ ap (λ q. end_noted (exit_of i.op) q old n) (sym (next p))))
            (noted_end old b (exit_of i.op) refl n);
      })

pub ends_done : (code : List Instr) (p : ℕ) (ends : ℕ → ℕ) → length code ≤ p → EndsBefore code p ends → AreEnds code ends
ends_done code p ends past b =
    record {
      each = λ l.
          same_above (ExitBefore code p l) (IsExitTo code l) (ends l) (λ k w. w.1)
          (λ k x. (let lt = slice_get_within code k x.instr x.at in omega (arith, lt, past), x)) (b.each l);
    }

-- ---- the reach

module _ (code : List Instr) (p : ℕ) (i : Instr) (at : slice_get code p ≡ Some i) (ends : ℕ → ℕ) (are : AreEnds code ends) where
  earlier : (e : ℕ) → EndsFrom code p e → EndsFrom code (suc p) e
  earlier e w =
      record {
        label = w.label;
        head = w.head;
        before = later w.head p w.before;
        instr = w.instr;
        at = w.at;
        labelled = w.labelled;
        back = w.back;
      }

  -- what begins here or before
  begins : (e : ℕ) → EndsFrom code (suc p) e → ((l : ℕ) × (label_of i.op ≡ Some l) × IsExitTo code l e) ⊎ EndsFrom code p e
  begins e w =
      ⊎_elim
      (λ h.
      inl (
        w.label,
        ap (λ (j : Instr). label_of j.op) (same_item (slice_get code p) i w.instr at (ap (slice_get code) (sym h) ∙ w.at)) ∙ w.labelled,
        w.back,
      ))
      (λ h.
      inr
      (record {
        label = w.label;
        head = w.head;
        before = h;
        instr = w.instr;
        at = w.at;
        labelled = w.labelled;
        back = w.back;
      })) (this_or_before w.head p w.before)

  reach_by : (r : ℕ) (o : Option ℕ) → label_of i.op ≡ o → IsAbove (EndsFrom code p) r →
      IsAbove (EndsFrom code (suc p)) (max r (end_by ends o))
  reach_by r None e a =
      let same : r ≡ max r 0 = omega arith in
      subst (IsAbove (EndsFrom code (suc p))) same
      (same_above (EndsFrom code p) (EndsFrom code (suc p)) r earlier
      (λ k w. ⊎_elim (λ x. absurd (let h = x.1 in cc)) (λ y. y) (begins k w)) a)
  reach_by r (Some l) e a =
      record {
        above = λ k w. ⊎_elim (λ x. new k x.0 x.1 x.2) (λ y. old k y) (begins k w);
        least = by (cases_lt r (ends l));
      }
    where
      new : (k n : ℕ) → label_of i.op ≡ Some n → IsExitTo code n k → k < max r (ends l)
      new k n h x =
          let same : n ≡ l = cc in
          let lt = (are.each l).above k (subst (λ n. IsExitTo code n k) same x) in
          omega (arith, lt)

      old : (k : ℕ) → EndsFrom code p k → k < max r (ends l)
      old k w = let lt = a.above k w in omega (arith, lt)

      from_here : (k : ℕ) → IsExitTo code l k → EndsFrom code (suc p) k
      from_here k x =
          record {
            label = l;
            head = p;
            before = now p;
            instr = i;
            at = at;
            labelled = e;
            back = x;
          }

      by : (r < ends l) ⊎ (ends l ≤ r) →
          (max r (ends l) ≡ 0) ⊎ ((k : ℕ) × (max r (ends l) ≡ suc k) × EndsFrom code (suc p) k)
      by (inl lt) =
          let same : max r (ends l) ≡ ends l = omega (arith, lt) in
          ⊎_elim (λ z. inl (same ∙ z)) (λ w. inr (w.0, same ∙ w.1, from_here w.0 w.2)) (are.each l).least
      by (inr le) =
          let same : max r (ends l) ≡ r = omega (arith, le) in
          ⊎_elim (λ z. inl (same ∙ z)) (λ w. inr (w.0, same ∙ w.1, earlier w.0 w.2)) a.least

  pub reach_more : (r new : ℕ) → new ≡ max r (loop_end ends i.op) → IsAbove (EndsFrom code p) r → IsAbove (EndsFrom code (p + 1)) new
  reach_more r new e a =
      subst (λ q. IsAbove (EndsFrom code q) new) (next p)
      (subst (IsAbove (EndsFrom code (suc p))) (sym e) (reach_by r (label_of i.op) refl a))

-- ---- flags

pub flags_more : (P : ℕ → Type 0) (n : ℕ) (old new : List Bool) (b : Bool) → new ≡ old ++ b ∷ [] → (b ≡ true) ↔ P n → AreFlags P n old →
    AreFlags P (n + 1) new
flags_more P n old new b e one are =
    record {
      len = let l = ap length e ∙ length-append old (b ∷ []) in let k = are.len in omega (arith, l, k);
      each = λ p lt. ⊎_elim (λ h. here p h) (λ h. before p h) (this_or_before p n (omega (arith, lt)));
    }
  where
    Says : ℕ → Bool → Type 0
    Says p b = (b ≡ true) ↔ P p

    here : (p : ℕ) → p ≡ n → (flag_at new p ≡ true) ↔ P p
    here p h =
        let same : flag_at new n ≡ b = ap (λ fs. flag_at fs n) e ∙ get_or_push old b false n are.len in
        subst (λ p. (flag_at new p ≡ true) ↔ P p) (sym h)
        (λ t. one.0 (sym same ∙ t), λ x. same ∙ one.1 x)

    before : (p : ℕ) → p < n → (flag_at new p ≡ true) ↔ P p
    before p lt =
        let k = are.len in
        let within : p < length old = omega (arith, lt, k) in
        let same : flag_at new p ≡ flag_at old p = ap (λ fs. flag_at fs p) e ∙ get_or_append_left old (b ∷ []) false p within in
        (λ t. (are.each p lt).0 (sym same ∙ t), λ x. same ∙ (are.each p lt).1 x)

-- ---- calm loops

all_three : (a b c : Bool) → a ≡ true → b ≡ true → c ≡ true → (a && (b && c)) ≡ true
all_three a b c e h k = cc

pub calm_wide_is : (code : List Instr) (p : ℕ) (i : Instr) → slice_get code p ≡ Some i → (reach calls : ℕ) →
    IsAbove (EndsFrom code (p + 1)) reach → (b : Bool) → b ≡ is_calm_wide i p reach calls → (b ≡ true) ↔ IsCalmWide code calls p
calm_wide_is code p i at reach calls so_far b e = (λ t. calm (sym e ∙ t), λ w. e ∙ holds w)
  where
    above : IsAbove (EndsFrom code (suc p)) reach
    above = subst (λ q. IsAbove (EndsFrom code q) reach) (sym (next p)) so_far

    calm : is_calm_wide i p reach calls ≡ true → IsCalmWide code calls p
    calm t =
        let x = and_parts (nat_lt p reach) (nat_le reach calls && makes_wide i) t in
        let y = and_parts (nat_le reach calls) (makes_wide i) x.1 in
        let inside = ltb-true p reach x.0 in
        let few = leb-true reach calls y.0 in
        let last = greatest (EndsFrom code (suc p)) reach above (omega (arith, inside)) in
        let is_last = last.1 in
        record {
          instr = i;
          at = at;
          wide = y.1;
          end = last.0;
          round = last.2;
          inside = omega (arith, inside, is_last);
          calm = λ e w. let lt = above.above e w in omega (arith, lt, few);
        }

    few : IsCalmWide code calls p → reach ≤ calls
    few w =
        ⊎_elim (λ z. omega (arith, z)) (λ l. let e = l.1 in let lt = w.calm l.0 l.2 in omega (arith, e, lt)) above.least

    holds : IsCalmWide code calls p → is_calm_wide i p reach calls ≡ true
    holds w =
        let lt = above.above w.end w.round in
        let before = w.inside in
        all_three (nat_lt p reach) (nat_le reach calls) (makes_wide i)
        (lt-ltb p reach (omega (arith, lt, before)))
        (le-leb reach calls (few w))
        (ap makes_wide (same_item (slice_get code p) i w.instr at w.at) ∙ w.wide)
