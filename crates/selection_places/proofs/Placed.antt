-- Fixed places of selected code: those of a function's colours, and of registers that are never live at once.
use Rattle.std.proofs.Common.{◌≡◌, ℕ, suc, ◌+◌, ◌<◌, ◌≤◌, ◌⊎◌, inl, inr, ⊎_elim, cond, ◌-◌, List, [], ◌∷◌, length, refl, sym, ap, ◌∙◌, subst, arith}
use Rattle.std.specs.Prelude.{◌≢◌, nat_eq, nat_le}
use Rattle.bs_words.specs.declared.types.Loc.{Loc}
use Rattle.bs_words.specs.declared.types.Loc.TheVariants as loc
use Rattle.cmm_tree.specs.Tree.{FunctionTree}
use Rattle.mach_ir.specs.Placed.{colour_numbers, HasColourOrSlot, in_colour, HasColourRegisters, LocationsAgree, WellPlaced}
use Rattle.mach_ir.specs.Walks.{IsRegister, is_param, Joined, one_way, other_way, Meets, at_write, at_params}
use Rattle.mach_ir.specs.declared.reg.Reg.{Reg}
use Rattle.colouring_rules.specs.Places.{ColoursLow}
use Rattle.colouring_rules.proofs.Open.{machine_open}
use Rattle.selection_rules.specs.Select.{selected, first_after_colours, seats, colour_regs}
use Rattle.selection_places.proofs.Sets.{Role, Plain, New, Seated, IsColour, left, right as in_right, it, Listed}
use Rattle.selection_places.proofs.Coded as coded
use Rattle.selection_places.proofs.Coded.{Member, later, Each, none, one, each_of, seats_apart}
use Rattle.selection_places.proofs.Codes.{onto}
use Rattle.selection_places.proofs.Soon.{found, contains_of, live_soon, soon_in, written_fine}
use Rattle.selection_places.proofs.Whole.{Whole, whole_block, others_block, params_of, HasRole, has, has_role, member_of, selected_coded, selected_numbers}
use Rattle.mach_laws.specs.Expand.{all}

-- ---- where registers are

pub plain_open : (f : FunctionTree) (r : Reg) → Whole f Plain r → r.loc ≡ loc.Unset
plain_open f r i = (whole_block f).place Plain r i

pub new_open : (f : FunctionTree) (r : Reg) → Whole f New r → r.loc ≡ loc.Unset
new_open f r i = (whole_block f).place New r i

stands : (f : FunctionTree) (r : Reg) → HasRole (Whole f) r → (r.loc ≡ loc.Unset) ⊎ IsColour r.loc
stands f r (has Plain i) = inl (plain_open f r i)
stands f r (has New i) = inl (new_open f r i)
stands f r (has Seated i) = (whole_block f).place Seated r i

-- A register of selected code is open, or is in a colour.
pub selected_stands : (f : FunctionTree) (r : Reg) → IsRegister (selected f) r → (r.loc ≡ loc.Unset) ⊎ IsColour r.loc
selected_stands f r x = stands f r (has_role f r x)

fixed_colour : (f : FunctionTree) (r : Reg) → IsRegister (selected f) r → r.loc ≢ loc.Unset → IsColour r.loc
fixed_colour f r x fixed = ⊎_elim (λ e. absurd (fixed e)) (λ c. c) (selected_stands f r x)

-- ---- parameters

from_onto : {r : Reg} (ss so_far : List Reg) → Member r (onto ss so_far) → Member r ss ⊎ Member r so_far
from_onto [] so_far m = inr m
from_onto {r} (s ∷ ss) so_far m = ⊎_elim (λ z. inl (later z)) by (from_onto ss (s ∷ so_far) m)
  where
    by : Member r (s ∷ so_far) → Member r (s ∷ ss) ⊎ Member r so_far
    by (coded.first e) = inl (coded.first e)
    by (later z) = inr z

not_in_none : {r : Reg} → Member r [] → ⊥
not_in_none m = elim m [ ]

-- two seats of one row with one place are one
one_seat : (i n : ℕ) (rs : List Reg) (r q : Reg) → Member r (seats i n rs) → Member q (seats i n rs) → r.loc ≡ q.loc → r.loc ≢ loc.Unset → r ≡ q
one_seat i n [] r q x y e fixed = elim x [ ]
one_seat i n (p ∷ rs) r q (coded.first a) (coded.first b) e fixed = a ∙ sym b
one_seat i n (p ∷ rs) r q (coded.first a) (later y) e fixed =
    let at = ap (λ (z : Reg). z.loc) a in
    absurd (fixed (at ∙ each_of (seats_apart i n p.comp (suc i) (suc n) rs (omega arith)) q y (sym e ∙ at)))
one_seat i n (p ∷ rs) r q (later x) (coded.first b) e fixed =
    let at = ap (λ (z : Reg). z.loc) b in
    absurd (fixed (e ∙ at ∙ each_of (seats_apart i n p.comp (suc i) (suc n) rs (omega arith)) r x (e ∙ at)))
one_seat i n (p ∷ rs) r q (later x) (later y) e fixed = one_seat (suc i) (suc n) rs r q x y e fixed

-- ---- registers that are live at once

meets_apart : (f : FunctionTree) (r q : Reg) → IsRegister (selected f) r → IsRegister (selected f) q → r.number ≢ q.number → Meets
    (selected f) r.number q.number → r.loc ≢ loc.Unset → r.loc ≡ q.loc → ⊥
meets_apart f r q x y apart (at_write i next there w live no_move) fixed same =
    written_fine (Whole f) (plain_open f) (new_open f) (selected f) (selected_numbers f) _ (selected_coded f) q y (λ e. fixed (same ∙ e))
    (fixed_colour f q y (λ e. fixed (same ∙ e))) r x apart same i next there w live
meets_apart f r q x y apart (at_params a live) fixed same =
    let open_q : q.loc ≢ loc.Unset = λ e. fixed (same ∙ e) in
    let soon = live_soon (Whole f) (plain_open f) (new_open f) (selected f) (selected_numbers f) _ (selected_coded f) q y open_q refl live all in
    let there = soon_in (Whole f) (plain_open f) (new_open f) q open_q (selected_coded f) soon in
    let q_in = ⊎_elim (λ z. z) (λ z. absurd (not_in_none z)) (from_onto (seats 0 first_after_colours (params_of f)) [] there) in
    let p = found a in
    let is_r = selected_numbers f p.reg r (is_param (contains_of p.member)) x p.same in
    let r_in = subst (λ z. Member z (seats 0 first_after_colours (params_of f))) is_r p.member in
    apart (ap (λ (z : Reg). z.number) (one_seat 0 first_after_colours (params_of f) r q r_in q_in same fixed))

joined_apart : (f : FunctionTree) (r q : Reg) → IsRegister (selected f) r → IsRegister (selected f) q → Joined (selected f) r.number q.number →
    r.loc ≢ loc.Unset → r.loc ≡ q.loc → ⊥
joined_apart f r q x y (one_way apart meets) fixed same = meets_apart f r q x y apart meets fixed same
joined_apart f r q x y (other_way apart meets) fixed same = meets_apart f q r y x (λ e. apart (sym e)) meets (λ e. fixed (same ∙ e)) (sym same)

placed : {r : Reg} → (r.loc ≡ loc.Unset) ⊎ IsColour r.loc → (r.loc ≡ loc.Unset) ⊎ HasColourOrSlot r
placed (inl e) = inl e
placed (inr c) = inr (in_colour c.colour c.among c.is)

pub selected_agree : (f : FunctionTree) → LocationsAgree (IsRegister (selected f)) (Joined (selected f))
selected_agree f =
    record {
      places = λ r x. placed (selected_stands f r x);
      apart = λ r q x y joined fixed same. absurd (joined_apart f r q x y joined fixed same);
    }

-- ---- colours

-- the number of the register of a colour
abbrev number_of : ℕ → ℕ
number_of c = cond (nat_eq c 8) 20 (cond (nat_le c 25) (c - 10) (c - 12))

abbrev number_at : Loc → ℕ
number_at (loc.Machine c) = number_of c
number_at _ = 0

abbrev Ranks : ℕ → List ℕ → Type 0
Ranks n [] = Unit {0}
Ranks n (c ∷ cs) = (n ≡ number_of c) × Ranks (suc n) cs

ranks : Ranks 0 colour_numbers
ranks = (
  refl,
  (
    refl,
    (
      refl,
      (
        refl,
        (
          refl,
          (
            refl,
            (
              refl,
              (
                refl,
                (
                  refl,
                  (
                    refl,
                    (
                      refl,
                      (refl, (refl, (refl, (refl, (refl, (refl, (refl, (refl, (refl, (refl, tt)))))))))),
                    ),
                  ),
                ),
              ),
            ),
          ),
        ),
      ),
    ),
  ),
)

numbered : (n : ℕ) (cs : List ℕ) → Ranks n cs → Each (λ (r : Reg). r.number ≡ number_at r.loc) (colour_regs n cs)
numbered n [] up = none
numbered n (c ∷ cs) up = one up.0 (numbered (suc n) cs up.1)

listed_member : (u t : Role) (r : Reg) (rs : List Reg) → Listed u rs t r → Member r rs
listed_member u t r [] i = absurd i
listed_member u t r (q ∷ rs) (left (it a b)) = coded.first b
listed_member u t r (q ∷ rs) (in_right i) = later (listed_member u t r rs i)

low_numbers : (n : ℕ) (cs : List ℕ) (k : ℕ) → n + length cs ≤ k → Each (λ (r : Reg). r.number < k) (colour_regs n cs)
low_numbers n [] k le = none
low_numbers n (c ∷ cs) k le = one (omega (arith, le)) (low_numbers (suc n) cs k (omega (arith, le)))

colours_low : Each (λ (r : Reg). r.number < first_after_colours) (colour_regs 0 colour_numbers)
colours_low = low_numbers 0 colour_numbers first_after_colours (omega arith)

least : (f : FunctionTree) (r q : Reg) → Member r (colour_regs 0 colour_numbers) → HasRole (Whole f) q → q.loc ≡ r.loc → r.number ≤ q.number
least f r q m (has t (left i)) e =
    let a = each_of (numbered 0 colour_numbers ranks) r m in
    let b = each_of (numbered 0 colour_numbers ranks) q (listed_member Seated t q (colour_regs 0 colour_numbers) i) in
    same r.number q.number (a ∙ ap number_at (sym e) ∙ sym b)
  where
    same : (n k : ℕ) → n ≡ k → n ≤ k
    same n k e = omega (arith, e)
least f r q m (has t (in_right i)) e =
    let low = (others_block f).from t q i in
    let high = each_of colours_low r m in
    omega (arith, low, high)

at_colours : (n : ℕ) (cs : List ℕ) → Each (λ (r : Reg). (c : ℕ) × (r.loc ≡ loc.Machine c)) (colour_regs n cs)
at_colours n [] = none
at_colours n (c ∷ cs) = one (c, refl) (at_colours (suc n) cs)

low : (f : FunctionTree) (r q : Reg) → Member r (colour_regs 0 colour_numbers) → HasRole (Whole f) q → q.loc ≡ loc.Unset → r.number < q.number
low f r q m (has t (left i)) o =
    let at = each_of (at_colours 0 colour_numbers) q (listed_member Seated t q (colour_regs 0 colour_numbers) i) in
    absurd (machine_open at.1 o)
low f r q m (has t (in_right i)) o =
    let above = (others_block f).from t q i in
    let below = each_of colours_low r m in
    omega (arith, above, below)

-- The registers of the colours have lower numbers than those whose places are open.
pub selected_low : (f : FunctionTree) → ColoursLow (selected f)
selected_low f r q c x o = low f r q (member_of (colour_regs 0 colour_numbers) r c) (has_role f q x) o

pub selected_colours : (f : FunctionTree) → HasColourRegisters (selected f)
selected_colours f = record { each = refl; least = λ r q c x e. least f r q (member_of (colour_regs 0 colour_numbers) r c) (has_role f q x) e }

-- Selected code is well placed.
pub selected_placed : (f : FunctionTree) → WellPlaced (selected f)
selected_placed f = record { colours = selected_colours f; agree = selected_agree f }
