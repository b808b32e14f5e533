-- A register that is written once, by what is noted.
use Rattle.std.proofs.Common.{◌≡◌, ◌∙◌, ℕ, ◌≤◌, Bool, true, false, cond, ◌&&◌, not, List, [], ◌∷◌, length, refl, sym, ap, subst, arith}
use Rattle.std.specs.Prelude.{Contains}
use Rattle.std.proofs.lemmas.Bool.{true≢false}
use Rattle.bs_words.specs.declared.types.Loc.TheVariants as loc
use Rattle.bs_words.proofs.Lists.{first_in, later_in}
use Rattle.mach_ir.specs.Formed.{WellFormed}
use Rattle.mach_ir.specs.Meaning.{Destroyed, Nothing, Temporaries, Everything, destroyed_by, is_destroyed, is_at_one_of, killed_among, killed_by, killed}
use Rattle.mach_ir.specs.Walks.{AmongRegisters, first, later, StandsAsInstr, here, below, IsRegister, is_colour}
use Rattle.mach_ir.specs.declared.reg.Reg.{Reg}
use Rattle.mach_ir.specs.declared.mach.Instr.{Instr}
use Rattle.mach_ir.specs.declared.mach.Mach.{Mach}
use Rattle.mach_laws.proofs.Places.{shorter}
use Rattle.hoist.specs.Written.{writes_counted, noted_in, times}
use Rattle.hoist.proofs.Counting.{noted_some, not_noted, is_noted, none_in_code, again_in_code, one_place}

-- ---- what an operation destroys is at a colour

record IsGone (n : ℕ) (rs : List Reg) (d : Destroyed) : Type 0 where
  pub reg : Reg
  pub among : Contains rs reg
  pub number : reg.number ≡ n
  pub gone : is_destroyed d reg.loc ≡ true

gone_if : (n : ℕ) (r : Reg) (rs others : List Reg) (d : Destroyed) (x y : Bool) → is_destroyed d r.loc ≡ x →
    AmongRegisters n (cond (x && y) (r ∷ others) others) → (AmongRegisters n others → IsGone n rs d) → IsGone n (r ∷ rs) d
gone_if n r rs others d true true e (first h) old = record { reg = r; among = first_in r rs; number = h; gone = e }
gone_if n r rs others d true true e (later a) old =
    let k = old a in
    record { reg = k.reg; among = later_in r k.reg rs k.among; number = k.number; gone = k.gone }
gone_if n r rs others d true false e a old =
    let k = old a in
    record { reg = k.reg; among = later_in r k.reg rs k.among; number = k.number; gone = k.gone }
gone_if n r rs others d false y e a old =
    let k = old a in
    record { reg = k.reg; among = later_in r k.reg rs k.among; number = k.number; gone = k.gone }

gone_among : (n : ℕ) (rs : List Reg) (d : Destroyed) (results : List Reg) → AmongRegisters n (killed_among rs d results) → IsGone n rs d
gone_among n [] d results a = elim a [ ]
gone_among n (r ∷ rs) d results a =
    gone_if n r rs (killed_among rs d results) d (is_destroyed d r.loc) (not (is_at_one_of r.loc results)) refl a
    (gone_among n rs d results)

gone_by : (n : ℕ) (rs : List Reg) (d : Destroyed) (results : List Reg) → AmongRegisters n (killed_by rs d results) → IsGone n rs d
gone_by n rs Nothing results a = elim a [ ]
gone_by n rs Temporaries results a = gone_among n rs Temporaries results a
gone_by n rs Everything results a = gone_among n rs Everything results a

never_open : (d : Destroyed) → is_destroyed d loc.Unset ≡ true → ⊥
never_open Nothing e = true≢false (sym e)
never_open Temporaries e = true≢false (sym e)
never_open Everything e = true≢false (sym e)

-- an open register of the function is destroyed by nothing
pub open_stays : (m : Mach) → WellFormed m → (r : Reg) → IsRegister m r → r.loc ≡ loc.Unset → (j : Instr) → AmongRegisters r.number (killed m j) → ⊥
open_stays m formed r is open_place j a =
    let g = gone_by r.number m.colours (destroyed_by j.op) j.results a in
    let same = formed.numbers g.reg r (is_colour g.among) is g.number in
    never_open (destroyed_by j.op)
    (subst (λ p. is_destroyed (destroyed_by j.op) p ≡ true) (ap (λ (r : Reg). r.loc) same ∙ open_place) g.gone)

-- ---- one write

module _ (n : ℕ) where
  -- what one instruction of a code writes once is noted once
  pub one_noted : {i : Instr} {next code : List Instr} → StandsAsInstr i next code → writes_counted n i.results 0 ≡ 1 →
      ((j : Instr) (others : List Instr) → StandsAsInstr j others code → AmongRegisters n j.results → others ≡ next) → noted_in n code 0 ≡ 1
  one_noted {i} {next} here one only =
      ap (noted_in n next) one
      ∙ none_in_code n next 1
      (λ j others s a.
      let e = ap length (only j others (below s) a) in
      let lt = shorter s in
      omega (arith, e, lt))
  one_noted {next = next} (below {j = k} {is = is} s) one only =
      ap (noted_in n is)
      (not_noted n k.results 0
      (λ a.
      let e = ap length (only k is here a) in
      let lt = shorter s in
      omega (arith, e, lt)))
      ∙ one_noted s one (λ j others t a. only j others (below t) a)

module _ (m : Mach) (n : ℕ) {i : Instr} {next : List Instr} (stands : StandsAsInstr i next m.code) (wrote : AmongRegisters n i.results)
    (one : times m n ≡ 1) where
  few : writes_counted n m.params 0 ≤ 2
  few = (noted_some n m.params 0 (omega arith)).at_most

  pub no_param : AmongRegisters n m.params → ⊥
  no_param a =
      let two = again_in_code n stands wrote (writes_counted n m.params 0) (is_noted n a 0 (omega arith)) few in
      omega (arith, two, one)

  pub only_here : (j : Instr) (others : List Instr) → StandsAsInstr j others m.code → AmongRegisters n j.results → others ≡ next
  only_here j others s a = one_place n stands wrote s a (writes_counted n m.params 0) few one

pub times_once : (m : Mach) (n : ℕ) {i : Instr} {next : List Instr} → StandsAsInstr i next m.code → writes_counted n i.results 0 ≡ 1 →
    (AmongRegisters n m.params → ⊥) → ((j : Instr) (others : List Instr) → StandsAsInstr j others m.code → AmongRegisters n j.results → others ≡ next) →
    times m n ≡ 1
times_once m n stands one none only = ap (noted_in n m.code) (not_noted n m.params 0 none) ∙ one_noted n stands one only
