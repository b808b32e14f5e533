-- Numbers of registers in rows of registers.
use Rattle.std.proofs.Common.{ℕ, [], List, ◌∷◌, ◌++◌, Option, Some, None, ◌⊎◌, inl, inr, ⊎_elim, ap, ◌≡◌, subst, arith, false, nat_eq}
use Rattle.std.proofs.lemmas.Bool.{cases_Bool, eq-eqb, eqb-true, both_ways}
use Rattle.std.specs.List.{Contains}
use Rattle.bs_words.specs.declared.values.Value.{Value}
use Rattle.mach_ir.specs.Formed.{AreDistinct}
use Rattle.mach_ir.specs.Keeps.{wrote_unless}
use Rattle.mach_ir.specs.Walks.{AmongRegisters, first, later}
use Rattle.mach_ir.specs.declared.reg.Reg.{Reg}
use Rattle.bs_words.proofs.Lists.{none_in, in_cons, first_in, later_in}

pub none_among : {A : Type 0} {n : ℕ} → AmongRegisters n [] → A
none_among a = elim a [ ]

pub left_among : {n : ℕ} (rs qs : List Reg) → AmongRegisters n rs → AmongRegisters n (rs ++ qs)
left_among (r ∷ rs) qs (first e) = first e
left_among (r ∷ rs) qs (later a) = later (left_among rs qs a)
left_among [] qs a = elim a [ ]

pub right_among : {n : ℕ} (rs qs : List Reg) → AmongRegisters n qs → AmongRegisters n (rs ++ qs)
right_among [] qs a = a
right_among (r ∷ rs) qs a = later (right_among rs qs a)

pub split_among : (n : ℕ) (rs qs : List Reg) → AmongRegisters n (rs ++ qs) → AmongRegisters n rs ⊎ AmongRegisters n qs
split_among n [] qs a = inr a
split_among n (r ∷ rs) qs (first e) = inl (first e)
split_among n (r ∷ rs) qs (later a) = ⊎_elim (λ h. inl (later h)) inr (split_among n rs qs a)

pub among_of : (r : Reg) (rs : List Reg) → Contains rs r → AmongRegisters r.number rs
among_of r [] c = absurd (none_in r c)
among_of r (k ∷ rs) c =
    ⊎_elim (λ e. first (ap (λ (x : Reg). x.number) e)) (λ d. later (among_of r rs d)) (in_cons k r rs c)

pub number_among : {n : ℕ} (rs : List Reg) → AmongRegisters n rs → (r : Reg) × Contains rs r × (r.number ≡ n)
number_among [] a = elim a [ ]
number_among (r ∷ rs) (first e) = (r, first_in r rs, e)
number_among (r ∷ rs) (later a) = let w = number_among rs a in (w.0, later_in r w.0 rs w.1, w.2)

pub among_or_not : (n : ℕ) (rs : List Reg) → AmongRegisters n rs ⊎ (AmongRegisters n rs → ⊥)
among_or_not n [] = inr (λ a. elim a [ ])
among_or_not n (r ∷ rs) =
    ⊎_elim (λ e. inl (first (eqb-true r.number n e)))
    (λ e. ⊎_elim (λ a. inl (later a)) (λ h. inr (λ a. none e h a)) (among_or_not n rs))
    (cases_Bool (nat_eq r.number n))
  where
    none : nat_eq r.number n ≡ false → (AmongRegisters n rs → ⊥) → AmongRegisters n (r ∷ rs) → ⊥
    none e h (first s) = both_ways (nat_eq r.number n) e (eq-eqb r.number n s)
    none e h (later a) = h a

pub among_number : {n m : ℕ} {rs : List Reg} → n ≡ m → AmongRegisters n rs → AmongRegisters m rs
among_number {rs = rs} e z = subst (λ k. AmongRegisters k rs) e z

pub none_distinct : AreDistinct []
none_distinct i j d below within = absurd (omega arith)

-- what is written, unless a value is raised
pub unless_among : (raised : Option Value) (rs : List Reg) (n : ℕ) → AmongRegisters n (wrote_unless raised rs) → AmongRegisters n rs
unless_among None rs n a = a
unless_among (Some v) rs n a = elim a [ ]
