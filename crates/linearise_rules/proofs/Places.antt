-- Places of the lowered lines: the place of the Mach code that each stands for, and the traps that are pushed there.
use Rattle.std.proofs.Common.{◌≡◌, ℕ, zero, suc, ◌+◌, ◌-◌, ◌<◌, ◌≤◌, Bool, true, false, cond, ⊎_elim, List, [], ◌∷◌, length, nat_le, refl, sym, ap, ◌∙◌, subst, arith}
use Rattle.std.proofs.lemmas.Bool.Decides.{leb_tells}
use Rattle.mach_ir.specs.Acts.{drop_tries}
use Rattle.mach_ir.specs.Meaning.{tries_past, tries_at}
use Rattle.mach_ir.specs.declared.reg.Reg.{Reg}
use Rattle.mach_ir.specs.declared.mach.Mark.TheVariants as mark
use Rattle.mach_ir.specs.declared.mach.MachOp.{MachOp}
use Rattle.mach_ir.specs.declared.mach.MachOp.TheVariants as mach
use Rattle.mach_ir.specs.declared.mach.Instr.{Instr}
use Rattle.mach_laws.specs.Expand.{Ending, all, more}
use Rattle.mach_laws.proofs.Places.{ending_next}
use Rattle.mach_laws.proofs.Instructions.{instr}
use Rattle.lin_ir.specs.Formed.{bare_flow}
use Rattle.lin_ir.specs.declared.lin.Flow.TheVariants as flow
use Rattle.lin_ir.specs.declared.lin.LinOp.TheVariants as lin
use Rattle.lin_ir.specs.declared.lin.Line.{Line}
use Rattle.linearise_rules.specs.Lowered.{is_idle, line_of, pops, lines_of, lowered_code}
use Rattle.linearise_rules.proofs.Marks.{idle_of, idle_tries}

pub drop_more : (n : ℕ) (ts : List ℕ) → drop_tries (suc n) ts ≡ drop_tries n (drop_tries 1 ts)
drop_more zero [] = refl
drop_more (suc n) [] = refl
drop_more n (t ∷ ts) = refl

-- ---- the tries round a place, by its number

module _ (number : ℕ → ℕ) where
  abbrev L : List Instr → List Line
  L = lowered_code number

  -- where so many lines of an instruction are left
  abbrev inner_tries : MachOp → ℕ → List ℕ → List ℕ
  inner_tries (mach.Mark (mark.Exit l k)) n ts = drop_tries (suc k - n) ts
  inner_tries (mach.Mark (mark.Leave l end)) n ts = drop_tries (2 - n) ts
  inner_tries _ n ts = ts

  abbrev pub place_tries : List Instr → ℕ → List ℕ
  place_tries [] n = []
  place_tries (i ∷ is) n = cond (nat_le n (length (L is))) (place_tries is n) (inner_tries i.op (n - length (L is)) (tries_at (i ∷ is)))

  pub pops_length : (n : ℕ) (xs : List Line) → length (pops number n xs) ≡ n + length xs
  pops_length zero xs = none (length xs)
    where
      none : (k : ℕ) → k ≡ 0 + k
      none k = omega arith
  pops_length (suc n) xs = ap suc (pops_length n xs) ∙ one_more n (length xs)
    where
      one_more : (n k : ℕ) → suc (n + k) ≡ suc n + k
      one_more n k = omega arith

  lines_longer : (f : MachOp) (i : Instr) (xs : List Line) → length xs ≤ length (lines_of number f i xs)
  lines_longer (mach.Op f) i xs = omega arith
  lines_longer (mach.Mark (mark.Exit l n)) i xs = let e = pops_length n (bare_flow (flow.Exit l) ∷ xs) in omega (arith, e)
  lines_longer (mach.Mark (mark.If t l)) i xs = omega arith
  lines_longer (mach.Mark (mark.Else l end)) i xs = omega arith
  lines_longer (mach.Mark (mark.Switch ls)) i xs = omega arith
  lines_longer (mach.Mark (mark.Case ns l end)) i xs = omega arith
  lines_longer (mach.Mark mark.Catch) i xs = omega arith
  lines_longer (mach.Mark (mark.With l end)) i xs = omega arith
  lines_longer (mach.Mark (mark.Try l)) i xs = omega arith
  lines_longer (mach.Mark (mark.Leave l end)) i xs = omega arith
  lines_longer (mach.Mark (mark.Handler l)) i xs = omega arith
  lines_longer (mach.Mark (mark.End l)) i xs = omega arith

  one_longer : (i : Instr) (is : List Instr) → length (L is) ≤ length (L (i ∷ is))
  one_longer i is = by (is_idle i.op i.args i.results) (lines_longer i.op i (L is))
    where
      by : (t : Bool) → length (L is) ≤ length (lines_of number i.op i (L is)) → length (L is) ≤ length (cond t (L is) (lines_of number i.op i (L is)))
      by true le = omega arith
      by false le = le

  ending_longer : {rest code : List Instr} → Ending rest code → length (L rest) ≤ length (L code)
  ending_longer all = omega arith
  ending_longer (more {i = i} {code = code} e) = let a = ending_longer e in let b = one_longer i code in omega (arith, a, b)

  le_true : (a b : ℕ) → a ≤ b → nat_le a b ≡ true
  le_true a b le = ⊎_elim (λ h. h.0) (λ h. let lt = h.1 in absurd (omega (arith, le, lt))) (leb_tells a b)

  le_false : (a b : ℕ) → b < a → nat_le a b ≡ false
  le_false a b lt = ⊎_elim (λ h. let le = h.1 in absurd (omega (arith, le, lt))) (λ h. h.0) (leb_tells a b)

  -- within the lines of one instruction
  pub inner_place : {i : Instr} {next code : List Instr} → Ending (i ∷ next) code → (n : ℕ) → length (L next) < n → n ≤ length (L (i ∷ next)) →
      place_tries code n ≡ inner_tries i.op (n - length (L next)) (tries_at (i ∷ next))
  inner_place {i} {next} all n lt le =
      ap (λ t. cond t (place_tries next n) (inner_tries i.op (n - length (L next)) (tries_at (i ∷ next)))) (le_false n (length (L next)) lt)
  inner_place {i} {next} (more {i = j} {code = code} e) n lt le =
      let a = ending_longer e in
      ap (λ t. cond t (place_tries code n) (inner_tries j.op (n - length (L code)) (tries_at (j ∷ code)))) (le_true n (length (L code)) (omega (arith, a, le)))
      ∙ inner_place e n lt le

  empty_place : {code : List Instr} → Ending [] code → place_tries code 0 ≡ []
  empty_place all = refl
  empty_place (more {i = j} {code = code} e) =
      ap (λ t. cond t (place_tries code 0) (inner_tries j.op (0 - length (L code)) (tries_at (j ∷ code)))) (le_true 0 (length (L code)) (omega arith))
      ∙ empty_place e

  minus : (n k : ℕ) → (n + k) - k ≡ n
  minus n k = omega arith

  no_drop : (n : ℕ) (ts : List ℕ) → drop_tries (n - n) ts ≡ ts
  no_drop n ts = ap (λ k. drop_tries k ts) (zero_of n)
    where
      zero_of : (n : ℕ) → n - n ≡ 0
      zero_of n = omega arith

  one : (k : ℕ) → suc k ≡ 1 + k
  one k = omega arith

  two : (k : ℕ) → suc (suc k) ≡ 2 + k
  two k = omega arith

  shifted : (n k : ℕ) → n + suc k ≡ suc n + k
  shifted n k = omega arith

  some : (n k : ℕ) → 0 < n → k < n + k
  some n k lt = omega (arith, lt)

  -- where n lines of an instruction, of which these are the last, are left
  pub at_left : {i : Instr} {next code : List Instr} → Ending (i ∷ next) code → (n m : ℕ) → m ≡ n + length (L next) → 0 < n → m ≤ length (L (i ∷ next)) →
      place_tries code m ≡ inner_tries i.op n (tries_at (i ∷ next))
  at_left {i} {next} {code} e n m len lt le =
      inner_place e m (subst (λ m. length (L next) < m) (sym len) (some n (length (L next)) lt)) le
      ∙ ap (λ k. inner_tries i.op k (tries_at (i ∷ next))) (ap (λ k. k - length (L next)) len ∙ minus n (length (L next)))

  -- at the first of its lines
  at_first : {i : Instr} {next code : List Instr} → Ending (i ∷ next) code → (n : ℕ) → length (L (i ∷ next)) ≡ n + length (L next) → 0 < n →
      inner_tries i.op n (tries_at (i ∷ next)) ≡ tries_at (i ∷ next) → place_tries code (length (L (i ∷ next))) ≡ tries_at (i ∷ next)
  at_first {i} {next} e n len lt same = at_left e n (length (L (i ∷ next))) len lt (omega arith) ∙ same

  positive : 0 < 1
  positive = omega arith

  positive_two : 0 < 2
  positive_two = omega arith

  positive_more : (n : ℕ) → 0 < suc n
  positive_more n = omega arith

  pub before_place : (rest code : List Instr) → Ending rest code → place_tries code (length (L rest)) ≡ tries_at rest
  before_place [] code e = empty_place e
  before_place (i ∷ next) code e = self (is_idle i.op i.args i.results) refl (before_place next code (ending_next e))
    where
      by : (f : MachOp) (args results : List Reg) → Ending (instr f args results ∷ next) code → is_idle f args results ≡ false → place_tries code (length (L next)) ≡ tries_at next →
          place_tries code (length (L (instr f args results ∷ next))) ≡ tries_past f (tries_at next)
      by (mach.Op f) args results e w ih =
          at_first e 1 (ap (λ t. length (cond t (L next) (line_of number (lin.Op f) (instr (mach.Op f) args results) ∷ L next))) w ∙ one (length (L next))) positive refl
      by (mach.Mark (mark.Exit l k)) args results e w ih =
          at_first e (suc k) (pops_length k (bare_flow (flow.Exit l) ∷ L next) ∙ shifted k (length (L next))) (positive_more k) (no_drop (suc k) (tries_at next))
      by (mach.Mark (mark.If t l)) args results e w ih = at_first e 1 (one (length (L next))) positive refl
      by (mach.Mark (mark.Else l end)) args results e w ih = at_first e 2 (two (length (L next))) positive_two refl
      by (mach.Mark (mark.Switch ls)) args results e w ih = at_first e 1 (one (length (L next))) positive refl
      by (mach.Mark (mark.Case ns l end)) args results e w ih = at_first e 2 (two (length (L next))) positive_two refl
      by (mach.Mark mark.Catch) args results e w ih = ih
      by (mach.Mark (mark.With l end)) args results e w ih = at_first e 2 (two (length (L next))) positive_two refl
      by (mach.Mark (mark.Try l)) args results e w ih = at_first e 1 (one (length (L next))) positive refl
      by (mach.Mark (mark.Leave l end)) args results e w ih = at_first e 2 (two (length (L next))) positive_two refl
      by (mach.Mark (mark.Handler l)) args results e w ih = at_first e 2 (two (length (L next))) positive_two refl
      by (mach.Mark (mark.End l)) args results e w ih = at_first e 1 (one (length (L next))) positive refl

      self : (t : Bool) → is_idle i.op i.args i.results ≡ t → place_tries code (length (L next)) ≡ tries_at next → place_tries code (length (L (i ∷ next))) ≡ tries_at (i ∷ next)
      self true w ih =
          ap (λ t. place_tries code (length (cond t (L next) (lines_of number i.op i (L next))))) w ∙ ih
          ∙ sym (idle_tries (tries_at next) (idle_of i.op i.args i.results w))
      self false w ih = by i.op i.args i.results e w ih
