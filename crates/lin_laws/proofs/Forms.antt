-- What the form of a line says of its components, and more of locations and descriptors.
use Rattle.std.proofs.Common.{◌≡◌, ℕ, List, [], ◌∷◌, refl, suc, length, ap, true, false, sym, ◌%◌, arith}
use Rattle.std.proofs.lemmas.Bool.{true≢false, eqb-true}
use Rattle.bs_words.specs.declared.types.Comp.{Comp}
use Rattle.bs_words.specs.declared.types.Loc.{Loc}
use Rattle.lin_ir.specs.Known.{IsTested}
use Rattle.lin_ir.specs.Formed.{comps, FlowHasForm, label_form, jump_form, exit_form, branch_form, switch_form, push_form, pop_form, enter_form}
use Rattle.lin_ir.specs.declared.lin.Spot.{Spot}
use Rattle.lin_ir.specs.declared.lin.Flow.TheVariants as flow
use Rattle.lin_ir.specs.Meaning.{same_loc}
use Rattle.lin_ir.specs.Descriptors.{ComesBefore, register_first, rising}
use Rattle.bs_words.specs.declared.types.Loc.TheVariants as loc

pub length_comps : (ss : List Spot) → length (comps ss) ≡ length ss
length_comps [] = refl
length_comps (s ∷ ss) = ap suc (length_comps ss)

pub label_inv : (l : ℕ) (xs ys : List Comp) → FlowHasForm (flow.Label l) xs ys → (xs ≡ []) × (ys ≡ [])
label_inv l xs ys label_form = (refl, refl)

pub jump_inv : (l : ℕ) (xs ys : List Comp) → FlowHasForm (flow.Jump l) xs ys → (xs ≡ []) × (ys ≡ [])
jump_inv l xs ys jump_form = (refl, refl)

pub exit_inv : (l : ℕ) (xs ys : List Comp) → FlowHasForm (flow.Exit l) xs ys → (xs ≡ []) × (ys ≡ [])
exit_inv l xs ys exit_form = (refl, refl)

pub branch_inv : (g : _) (l : ℕ) (xs ys : List Comp) → FlowHasForm (flow.Branch g l) xs ys → IsTested g xs × (ys ≡ [])
branch_inv g l xs ys (branch_form h) = (h, refl)

pub switch_inv : (ls : List ℕ) (xs ys : List Comp) → FlowHasForm (flow.Switch ls) xs ys → ((t : Comp) × (xs ≡ t ∷ [])) × (ys ≡ [])
switch_inv ls xs ys (switch_form {index = t}) = ((t, refl), refl)

pub push_inv : (l : ℕ) (xs ys : List Comp) → FlowHasForm (flow.PushTrap l) xs ys → (xs ≡ []) × (ys ≡ [])
push_inv l xs ys push_form = (refl, refl)

pub pop_inv : (xs ys : List Comp) → FlowHasForm flow.PopTrap xs ys → (xs ≡ []) × (ys ≡ [])
pop_inv xs ys pop_form = (refl, refl)

pub enter_inv : (xs ys : List Comp) → FlowHasForm flow.EnterTrap xs ys → (xs ≡ []) × ((t : Comp) × (ys ≡ t ∷ []))
enter_inv xs ys enter_form = (refl, (_, refl))

pub no_spots : (ss : List Spot) → comps ss ≡ [] → ss ≡ []
no_spots [] e = refl
no_spots (s ∷ ss) e = absurd (out s.comp (comps ss) e)
  where
    out : (t : Comp) (ts : List Comp) → t ∷ ts ≡ [] → ⊥
    out t ts e = cc

pub same_loc_is : (a b : Loc) → same_loc a b ≡ true → a ≡ b
same_loc_is (loc.Machine a) (loc.Machine b) e = ap loc.Machine (eqb-true a b e)
same_loc_is (loc.Slot a) (loc.Slot b) e = ap loc.Slot (eqb-true a b e)
same_loc_is (loc.Machine a) (loc.Slot b) e = absurd (true≢false (sym e))
same_loc_is (loc.Slot a) (loc.Machine b) e = absurd (true≢false (sym e))
same_loc_is loc.Unset b e = absurd (true≢false (sym e))
same_loc_is (loc.Machine a) loc.Unset e = absurd (true≢false (sym e))
same_loc_is (loc.Slot a) loc.Unset e = absurd (true≢false (sym e))

pub not_before : (a : ℕ) → ComesBefore a a → ⊥
not_before a (register_first one two) = apart (a % 2) one two
  where
    apart : (k : ℕ) → k ≡ 1 → k ≡ 0 → ⊥
    apart k e f = omega (arith, e, f)
not_before a (rising same lt) = omega (arith, lt)

pub same_machine : (q r : ℕ) → loc.Machine q ≡ loc.Machine r → q ≡ r
same_machine q r e = cc

pub not_slot : (m n : ℕ) → loc.Machine m ≡ loc.Slot n → ⊥
not_slot m n e = cc
