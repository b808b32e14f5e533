-- How often registers are written, by what is noted of them.
use Rattle.std.proofs.Common.{◌≡◌, ◌∙◌, ◌⊎◌, ⊎_elim, ℕ, zero, suc, ◌≤◌, Bool, true, false, cond, List, [], ◌∷◌, length, drop, refl, sym, ap, subst, arith}
use Rattle.std.specs.Prelude.{nat_eq}
use Rattle.std.proofs.lemmas.Bool.Decides.{eqb_tells}
use Rattle.mach_ir.specs.Walks.{AmongRegisters, first, later, StandsAsInstr, here, below}
use Rattle.mach_ir.specs.declared.reg.Reg.{Reg}
use Rattle.mach_ir.specs.declared.mach.Instr.{Instr}
use Rattle.hoist.specs.Written.{more, writes_counted, noted_in}

-- ---- one more

pub from_start : {X : Type 0} (xs : List X) → drop 0 xs ≡ xs
from_start [] = refl
from_start (x ∷ xs) = refl

pub past_end : {X : Type 0} (xs : List X) (p : ℕ) → length xs ≤ p → drop p xs ≡ []
past_end [] zero le = refl
past_end [] (suc p) le = refl
past_end (x ∷ xs) zero le = absurd (omega (arith, le))
past_end (x ∷ xs) (suc p) le = past_end xs p (omega (arith, le))

-- ---- what is noted

-- at most two, and no fewer than before
pub record IsNoted (old new : ℕ) : Type 0 where
  pub no_fewer : old ≤ new
  pub at_most : new ≤ 2

more_noted : (t : ℕ) → t ≤ 2 → IsNoted t (more t)
more_noted zero le = record { no_fewer = omega arith; at_most = omega arith }
more_noted (suc t) le = record { no_fewer = omega (arith, le); at_most = omega arith }

more_some : (t : ℕ) → 1 ≤ more t
more_some zero = omega arith
more_some (suc t) = omega arith

more_two : (t : ℕ) → 1 ≤ t → more t ≡ 2
more_two zero le = absurd (omega (arith, le))
more_two (suc t) le = refl

module _ (n : ℕ) where
  step_noted : (b : Bool) (t : ℕ) → t ≤ 2 → IsNoted t (cond b (more t) t)
  step_noted true t le = more_noted t le
  step_noted false t le = record { no_fewer = omega arith; at_most = le }

  pub noted_some : (rs : List Reg) (t : ℕ) → t ≤ 2 → IsNoted t (writes_counted n rs t)
  noted_some [] t le = record { no_fewer = omega arith; at_most = le }
  noted_some (r ∷ rs) t le =
      let a = step_noted (nat_eq r.number n) t le in
      let b = noted_some rs (cond (nat_eq r.number n) (more t) t) a.at_most in
      let x = a.no_fewer in
      let y = b.no_fewer in
      record { no_fewer = omega (arith, x, y); at_most = b.at_most }

  -- none of them has the number
  pub not_noted : (rs : List Reg) (t : ℕ) → (AmongRegisters n rs → ⊥) → writes_counted n rs t ≡ t
  not_noted [] t none = refl
  not_noted (r ∷ rs) t none =
      ap (writes_counted n rs) (⊎_elim (λ e. absurd (none (first e.1))) (λ e. ap (λ b. cond b (more t) t) e.0) (eqb_tells r.number n))
      ∙ not_noted rs t (λ a. none (later a))

  two_stays : (rs : List Reg) (t : ℕ) → t ≡ 2 → writes_counted n rs t ≡ 2
  two_stays rs t e =
      let s = noted_some rs t (let h = e in omega (arith, h)) in
      let x = s.no_fewer in
      let y = s.at_most in
      omega (arith, x, y, e)

  pub is_noted : {rs : List Reg} → AmongRegisters n rs → (t : ℕ) → t ≤ 2 → 1 ≤ writes_counted n rs t
  is_noted (first {r = r} {rs = rs} e) t le =
      let hit : cond (nat_eq r.number n) (more t) t ≡ more t = hits r t e in
      let a = more_some t in
      let b = noted_some rs (more t) (more_noted t le).at_most in
      let x = b.no_fewer in
      let y : 1 ≤ writes_counted n rs (more t) = omega (arith, a, x) in
      subst (λ k. 1 ≤ writes_counted n rs k) (sym hit) y
    where
      hits : (r : Reg) (t : ℕ) → r.number ≡ n → cond (nat_eq r.number n) (more t) t ≡ more t
      hits r t e = ⊎_elim (λ x. ap (λ b. cond b (more t) t) x.0) (λ x. absurd (x.1 e)) (eqb_tells r.number n)
  is_noted (later {r = r} {rs = rs} a) t le =
      is_noted a (cond (nat_eq r.number n) (more t) t) (step_noted (nat_eq r.number n) t le).at_most

  pub noted_again : {rs : List Reg} → AmongRegisters n rs → (t : ℕ) → 1 ≤ t → t ≤ 2 → writes_counted n rs t ≡ 2
  noted_again (first {r = r} {rs = rs} e) t some le =
      ap (writes_counted n rs) (hits r t e) ∙ two_stays rs (more t) (more_two t some)
    where
      hits : (r : Reg) (t : ℕ) → r.number ≡ n → cond (nat_eq r.number n) (more t) t ≡ more t
      hits r t e = ⊎_elim (λ x. ap (λ b. cond b (more t) t) x.0) (λ x. absurd (x.1 e)) (eqb_tells r.number n)
  noted_again (later {r = r} {rs = rs} a) t some le =
      let s = step_noted (nat_eq r.number n) t le in
      let x = s.no_fewer in
      noted_again a (cond (nat_eq r.number n) (more t) t) (omega (arith, some, x)) s.at_most

  -- ---- in a code

  pub in_code : (code : List Instr) (t : ℕ) → t ≤ 2 → IsNoted t (noted_in n code t)
  in_code [] t le = record { no_fewer = omega arith; at_most = le }
  in_code (i ∷ is) t le =
      let a = noted_some i.results t le in
      let b = in_code is (writes_counted n i.results t) a.at_most in
      let x = a.no_fewer in
      let y = b.no_fewer in
      record { no_fewer = omega (arith, x, y); at_most = b.at_most }

  pub none_in_code : (code : List Instr) (t : ℕ) →
      ((j : Instr) (others : List Instr) → StandsAsInstr j others code → AmongRegisters n j.results → ⊥) → noted_in n code t ≡ t
  none_in_code [] t none = refl
  none_in_code (i ∷ is) t none =
      ap (noted_in n is) (not_noted i.results t (none i is here))
      ∙ none_in_code is t (λ j others s. none j others (below s))

  pub again_in_code : {j : Instr} {others code : List Instr} → StandsAsInstr j others code → AmongRegisters n j.results → (t : ℕ) → 1 ≤ t → t ≤ 2 →
      noted_in n code t ≡ 2
  again_in_code {j} {others} here a t some le =
      let two = noted_again a t some le in
      let s = in_code others (writes_counted n j.results t) (let h = two in omega (arith, h)) in
      let x = s.no_fewer in
      let y = s.at_most in
      omega (arith, two, x, y)
  again_in_code (below {j = i} {is = is} s) a t some le =
      let b = noted_some i.results t le in
      let x = b.no_fewer in
      again_in_code s a (writes_counted n i.results t) (omega (arith, some, x)) b.at_most

  -- no register that is noted once is written twice
  pub one_place : {i j : Instr} {next others code : List Instr} → StandsAsInstr i next code → AmongRegisters n i.results → StandsAsInstr j others code →
      AmongRegisters n j.results → (t : ℕ) → t ≤ 2 → noted_in n code t ≡ 1 → others ≡ next
  one_place here a here b t le one = refl
  one_place {i} here a (below s) b t le one =
      let two = again_in_code s b (writes_counted n i.results t) (is_noted a t le) (noted_some i.results t le).at_most in
      absurd (omega (arith, one, two))
  one_place {j = j} (below s) a here b t le one =
      let two = again_in_code s a (writes_counted n j.results t) (is_noted b t le) (noted_some j.results t le).at_most in
      absurd (omega (arith, one, two))
  one_place (below {j = k} s) a (below u) b t le one =
      one_place s a u b (writes_counted n k.results t) (noted_some k.results t le).at_most one
