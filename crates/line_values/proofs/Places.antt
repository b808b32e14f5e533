-- The registers and slots that a line may name.
use Rattle.std.proofs.Common.{◌≡◌, ℕ, ◌<◌, Bool, true, ◌&&◌, not, nat_eq, nat_le, nat_lt, List, [], ◌∷◌, refl, sym, subst}
use Rattle.std.specs.List.{All}
use Rattle.std.proofs.lemmas.Bool.{and_parts, eq-eqb, eqb-true, leb-true, ltb-true}
use Rattle.std.proofs.lemmas.List.Elements.{All-contains, All-nil, All-cons}
use Rattle.bs_words.specs.declared.types.Loc.TheVariants as loc
use Rattle.lin_ir.specs.Formed.{is_colour, is_slot, IsLocation, is_home, is_spare}
use Rattle.lin_ir.specs.declared.lin.Lin.{Lin}
use Rattle.mach_ir.specs.Placed.{colour_numbers}
use Rattle.rv_isa.specs.Registers.{register_number, register_at}
use Rattle.lin_machine.specs.Relation as relation
use Rattle.lin_laws.proofs.Forms.{same_machine}

-- a register that holds values, with the number that its name has
pub record IsUsual (r : ℕ) : Type 0 where
  pub number_is : register_number (register_at r) ≡ r
  pub location : relation.IsLocationRegister r

-- ---- by tests

abbrev is_usual : ℕ → Bool
is_usual r =
    nat_eq (register_number (register_at r)) r && (nat_le 3 r && (nat_lt r 32 && (not (nat_eq r 9) && (not (nat_eq r 26) && (not (nat_eq r 27) && (not (nat_eq r 6)
    && not (nat_eq r 7)))))))

no_equal : (a b : ℕ) → not (nat_eq a b) ≡ true → a ≡ b → ⊥
no_equal a b t e = let f : nat_eq a b ≡ true = eq-eqb a b e in absurd (cc)

by_test : (r : ℕ) → is_usual r ≡ true → IsUsual r
by_test r t =
    let p1 = and_parts _ _ t in
    let p2 = and_parts _ _ p1.1 in
    let p3 = and_parts _ _ p2.1 in
    let p4 = and_parts _ _ p3.1 in
    let p5 = and_parts _ _ p4.1 in
    let p6 = and_parts _ _ p5.1 in
    let p7 = and_parts _ _ p6.1 in
    record {
      number_is = eqb-true (register_number (register_at r)) r p1.0;
      location = record {
        some = leb-true 3 r p2.0;
        below = ltb-true r 32 p3.0;
        no_trap = no_equal r 9 p4.0;
        no_young = no_equal r 26 p5.0;
        no_domain = no_equal r 27 p6.0;
        no_scratch = (no_equal r 6 p7.0, no_equal r 7 p7.1);
      };
    }

abbrev all_usual : List ℕ → Bool
all_usual [] = true
all_usual (x ∷ xs) = is_usual x && all_usual xs

from_tests : (xs : List ℕ) → all_usual xs ≡ true → All IsUsual xs
from_tests [] e = All-nil IsUsual
from_tests (x ∷ xs) e =
    let p = and_parts (is_usual x) (all_usual xs) e in
    All-cons IsUsual x xs (by_test x p.0) (from_tests xs p.1)

-- ---- locations

pub usual_of : (m : Lin) (r : ℕ) → IsLocation m (loc.Machine r) → IsUsual r
usual_of m r (is_home (is_colour c)) = All-contains IsUsual colour_numbers r (from_tests colour_numbers refl) c
usual_of m r (is_spare e) = subst IsUsual (sym (same_machine r 5 e)) (by_test 5 refl)

pub slot_of : (m : Lin) (k : ℕ) → IsLocation m (loc.Slot k) → k < m.slots
slot_of m k (is_home (is_slot l)) = l
slot_of m k (is_spare e) = absurd (no_slot k e)
  where
    no_slot : (k : ℕ) → loc.Slot k ≡ loc.Machine 5 → ⊥
    no_slot k e = absurd (cc)

pub no_unset : (m : Lin) → IsLocation m loc.Unset → ⊥
no_unset m (is_home h) = elim h [ ]
no_unset m (is_spare e) = absurd (cc)
