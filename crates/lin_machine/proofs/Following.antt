-- The machine follows a line that goes on with the next one.
use Rattle.std.proofs.Common.{◌≡◌, ℕ, ◌+◌, ◌⊎◌, inl, inr, Bool, true, false, cond, List, [], ◌∷◌, length, Some, refl, ap, arith, ◌∙◌, sym, subst, ⊎_elim}
use Rattle.std.proofs.lemmas.Bool.{eqb-true, eq-eqb}
use Rattle.bs_words.specs.Fits.{fits, type_of_comp}
use Rattle.bs_words.specs.declared.types.Loc.{Loc}
use Rattle.bs_words.specs.declared.types.Loc.TheVariants as loc
use Rattle.bs_words.specs.declared.values.Value.{Value}
use Rattle.mach_ir.specs.Acts.{Around}
use Rattle.rv_machine.specs.Hart.{Placed}
use Rattle.lin_ir.specs.Formed.{spare}
use Rattle.lin_ir.specs.Meaning.{Locations, same_loc, assign_spot, put_if, put_all, wrote}
use Rattle.lin_ir.specs.declared.lin.Line.{Line}
use Rattle.lin_ir.specs.declared.lin.Spot.{Spot}
use Rattle.lin_machine.specs.Files.{IsPut}
use Rattle.lin_machine.specs.Follows.{Agrees, FollowsStep, IsAt}
use Rattle.lin_machine.specs.Relation.{Below, Laid, Within}
use Rattle.lin_machine.specs.Straight.{LeadsFurther}
use Rattle.lin_machine.specs.View.{Fixed, View, ReachesView}
use Rattle.lin_machine.proofs.Arriving.{leads_in}

-- ---- files

pub same_loc-true : (l k : Loc) → same_loc l k ≡ true → k ≡ l
same_loc-true (loc.Machine a) (loc.Machine b) e = ap loc.Machine (sym (eqb-true a b e))
same_loc-true (loc.Machine a) (loc.Slot b) e = absurd (cc)
same_loc-true (loc.Machine a) loc.Unset e = absurd (cc)
same_loc-true (loc.Slot a) (loc.Slot b) e = ap loc.Slot (sym (eqb-true a b e))
same_loc-true (loc.Slot a) (loc.Machine b) e = absurd (cc)
same_loc-true (loc.Slot a) loc.Unset e = absurd (cc)
same_loc-true loc.Unset (loc.Machine b) e = absurd (cc)
same_loc-true loc.Unset (loc.Slot b) e = absurd (cc)
same_loc-true loc.Unset loc.Unset e = refl

pub same_loc-machine : (r : ℕ) → same_loc (loc.Machine r) (loc.Machine r) ≡ true
same_loc-machine r = eq-eqb r r refl

pub same_loc-slot : (k : ℕ) → same_loc (loc.Slot k) (loc.Slot k) ≡ true
same_loc-slot k = eq-eqb k k refl

-- a location that is a place: a register or a slot
abbrev pub IsPlace : Loc → Type 0
IsPlace l = same_loc l l ≡ true

pub put_is : (r : Spot) (x : Value) (f : Locations) → IsPlace r.loc → IsPut r.loc x f (assign_spot r x f)
put_is r x f is = record { each = λ k y h. by_test k y (same_loc r.loc k) refl h }
  where
    by_test : (k : Loc) (y : Value) (t : Bool) → same_loc r.loc k ≡ t → cond t (Some x) (f k) ≡ Some y → ((k ≡ r.loc) × (y ≡ x))
        ⊎ ((k ≡ r.loc → ⊥) × (f k ≡ Some y))
    by_test k y true e h = inl (same_loc-true r.loc k e, (let same : Some x ≡ Some y = h in cc))
    by_test k y false e h = inr ((λ q. let again : same_loc r.loc r.loc ≡ false = subst (λ z. same_loc r.loc z ≡ false) q e in cc), h)

-- ---- what the machine holds of a file

-- t0 is read after a line only where the line writes it, or where it is read from the line on
abbrev pub PassesSpare : Type 0 → Type 0 → Loc → Type 0
PassesSpare before behind l = behind → (l ≡ spare) ⊎ before

pub agrees_put : (before behind : Type 0) (r : Spot) (x : Value) (held file : Locations) → PassesSpare before behind r.loc → Agrees before held file →
    Agrees behind (assign_spot r x held) (assign_spot r x file)
agrees_put before behind r x held file passes agrees = record {
  others = λ l n. ap (cond (same_loc r.loc l) (Some x)) (agrees.others l n);
  spare_too = λ live. ⊎_elim (λ e. written e) (λ b. ap (cond (same_loc r.loc spare) (Some x)) (agrees.spare_too b)) (passes live);
}
  where
    written : r.loc ≡ spare → cond (same_loc r.loc spare) (Some x) (held spare) ≡ cond (same_loc r.loc spare) (Some x) (file spare)
    written e = subst (λ z. cond (same_loc z spare) (Some x) (held spare) ≡ cond (same_loc z spare) (Some x) (file spare)) (sym e) refl

-- nor where the line writes nothing
pub agrees_on : (before behind : Type 0) (held file : Locations) → (behind → before) → Agrees before held file → Agrees behind held file
agrees_on before behind held file passes agrees = record { others = agrees.others; spare_too = λ live. agrees.spare_too (passes live) }

-- ---- on with the next line

module _ (s : Fixed) (laid : Laid) (live : List Line → Type 0) (entry : ℕ → ℕ) (c : Below) (v : View) (rest : List Line) where
  pub goes_follows :
      (n : ℕ) (young : List Placed) (held file : Locations) (a : Around) → laid.part (length rest) ≡ v.place + n → Agrees (live rest) held file →
      LeadsFurther s v n (λ w. Within s laid w young 0 held a c) →
      FollowsStep n s laid live entry c v (wrote rest a (Some file))
  goes_follows n young held file a place agrees first =
      leads_in 0 n s n (omega arith) (omega arith) v first.view (IsAt s laid live c (record { rest = rest; file = file; around = a })) first.leads
      (young, held, agrees, record { place = first.place ∙ sym place; within = first.holds })

  -- with one result
  pub result_follows :
      (before : Type 0) (n : ℕ) (end : ℕ) (spot : Spot) (x : Value) (young : List Placed) (held file : Locations) (a : Around) →
      laid.part (length rest) ≡ v.place + n →
      Agrees before held file → PassesSpare before (live rest) spot.loc →
      (fits end (type_of_comp spot.comp) x ≡ true → LeadsFurther s v n (λ w. Within s laid w young 0 (assign_spot spot x held) a c)) →
      FollowsStep n s laid live entry c v (wrote rest a (put_all end (spot ∷ []) (x ∷ []) file))
  result_follows before n end spot x young held file a place agrees passes first = by_test (fits end (type_of_comp spot.comp) x) refl
    where
      by_test : (t : Bool) → fits end (type_of_comp spot.comp) x ≡ t → FollowsStep n s laid live entry c v (wrote rest a (put_if t spot x (Some file)))
      by_test true e =
          goes_follows n young (assign_spot spot x held) (assign_spot spot x file) a place (agrees_put before (live rest) spot x held file passes agrees) (first e)
      by_test false e = tt

  -- where it lands, a label's place or the next line's
  pub lands_follows :
      (n : ℕ) (w : View) (young : List Placed) (held file : Locations) (a : Around) → ReachesView s n v w → w.place ≡ laid.part (length rest) →
      Agrees (live rest) held file →
      Within s laid w young 0 held a c → FollowsStep n s laid live entry c v (wrote rest a (Some file))
  lands_follows n w young held file a leads place agrees within =
      leads_in 0 n s n (omega arith) (omega arith) v w (IsAt s laid live c (record { rest = rest; file = file; around = a })) leads
      (young, held, agrees, record { place = place; within = within })
