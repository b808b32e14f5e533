-- The numbers of fresh registers rise in the order of the text, and are those by how many instructions come after.
use Rattle.std.proofs.Common.{◌≡◌, ℕ, ◌+◌, ◌<◌, ◌≤◌, Bool, true, false, cond, List, [], ◌∷◌, ◌++◌, length, refl, sym, ap, ◌∙◌, subst, arith}
use Rattle.std.proofs.lemmas.Bool.{eq-eqb, eqb-true}
use Rattle.std.specs.Prelude.{nat_eq}
use Rattle.mach_ir.specs.Walks.{StandsAsInstr, here, below, IsRegister}
use Rattle.mach_ir.specs.declared.reg.Reg.{Reg}
use Rattle.mach_ir.specs.declared.mach.Instr.{Instr}
use Rattle.mach_ir.specs.declared.mach.Mach.{Mach}
use Rattle.mach_laws.specs.Expand.{expand}
use Rattle.mach_laws.proofs.Places.{shorter}
use Rattle.pass_rules.specs.Measures.{operands_with, other_operands}
use Rattle.reload_rules.specs.Reloaded.{reads_registers, writes_registers, number_past, past_instr, reloaded_instr, reloaded_code, reloaded}
use Rattle.reload_rules.proofs.Copies.{few_past}
use Rattle.reload_rules.proofs.Live.{IsNumbering, reloaded_by}
use Rattle.reload_rules.proofs.Numbers.{past_rises}
use Rattle.reload_rules.proofs.Text.{laid_instr}

instr_rises : (n : ℕ) (i : Instr) → n ≤ past_instr n i
instr_rises n i =
    let x = past_rises (reads_registers i.op) n i.args in
    let y = past_rises (writes_registers i.op) (number_past (reads_registers i.op) n i.args) i.results in omega (arith, x, y)

-- the first number at the instruction that so many come after
abbrev start_at : List Instr → ℕ → ℕ → ℕ
start_at [] n k = n
start_at (i ∷ is) n k = cond (nat_eq k (length is)) n (start_at is (past_instr n i) k)

at_head : (i : Instr) (is : List Instr) (n : ℕ) → start_at (i ∷ is) n (length is) ≡ n
at_head i is n = ap (λ b. cond b n (start_at is (past_instr n i) (length is))) (eq-eqb (length is) (length is) refl)

at_tail : (i : Instr) (is : List Instr) (n k : ℕ) → k < length is → start_at (i ∷ is) n k ≡ start_at is (past_instr n i) k
at_tail i is n k lt = by (nat_eq k (length is)) refl
  where
    not_equal : (a b : ℕ) → a < b → a ≡ b → ⊥
    not_equal a b x y = omega (arith, x, y)

    by : (b : Bool) → nat_eq k (length is) ≡ b → cond b n (start_at is (past_instr n i) k) ≡ start_at is (past_instr n i) k
    by true e = absurd (not_equal k (length is) lt (eqb-true k (length is) e))
    by false e = refl

from_start : (code : List Instr) (n : ℕ) (i : Instr) (next : List Instr) → StandsAsInstr i next code → n ≤ start_at code n (length next)
from_start (j ∷ is) n i next here = let e = at_head i is n in omega (arith, e)
from_start (j ∷ is) n i next (below s) =
    let e = at_tail j is n (length next) (shorter s) in
    let x = from_start is (past_instr n j) i next s in
    let y = instr_rises n j in omega (arith, e, x, y)
from_start [] n i next s = elim s [ ]

rises_past : (code : List Instr) (n : ℕ) (i j : Instr) (next rest : List Instr) → StandsAsInstr i next code → StandsAsInstr j rest next →
    past_instr (start_at code n (length next)) i ≤ start_at code n (length rest)
rises_past (k ∷ is) n i j next rest here t =
    let x = from_start is (past_instr n i) j rest t in
    subst (λ a. past_instr a i ≤ start_at (i ∷ is) n (length rest)) (sym (at_head i is n))
    (subst (λ a. past_instr n i ≤ a) (sym (at_tail i is n (length rest) (shorter t))) x)
rises_past (k ∷ is) n i j next rest (below s) t =
    let less = shorter t in
    let lt = shorter s in
    subst (λ a. past_instr a i ≤ start_at (k ∷ is) n (length rest)) (sym (at_tail k is n (length next) lt))
    (subst (λ a. past_instr (start_at is (past_instr n k) (length next)) i ≤ a)
    (sym (at_tail k is n (length rest) (omega (arith, less, lt)))) (rises_past is (past_instr n k) i j next rest s t))
rises_past [] n i j next rest s t = elim s [ ]

below_all : (code : List Instr) (n : ℕ) (i : Instr) (next : List Instr) → StandsAsInstr i next code →
    past_instr (start_at code n (length next)) i ≤ n + other_operands code
below_all (k ∷ is) n i next here =
    let x = few_past n i in
    subst (λ a. past_instr a i ≤ n + other_operands (i ∷ is)) (sym (at_head i is n))
    (more n (past_instr n i) (operands_with i.op i.args i.results) (other_operands is) x)
  where
    more : (n p h c : ℕ) → p ≤ n + h → p ≤ n + (h + c)
    more n p h c x = omega (arith, x)
below_all (k ∷ is) n i next (below s) =
    subst (λ a. past_instr a i ≤ n + other_operands (k ∷ is)) (sym (at_tail k is n (length next) (shorter s)))
    (more n (past_instr (start_at is (past_instr n k) (length next)) i) (past_instr n k) (operands_with k.op k.args k.results) (other_operands is)
    (few_past n k) (below_all is (past_instr n k) i next s))
  where
    more : (n p a h c : ℕ) → a ≤ n + h → p ≤ a + c → p ≤ n + (h + c)
    more n p a h c x y = omega (arith, x, y)
below_all [] n i next s = elim s [ ]

expand_same : (s : ℕ → ℕ) (code : List Instr) (n : ℕ) → ((k : ℕ) → k < length code → s k ≡ start_at code n k) →
    expand (laid_instr s) code ≡ reloaded_code n code
expand_same s [] n h = refl
expand_same s (i ∷ is) n h =
    ap (λ a. reloaded_instr a i ++ expand (laid_instr s) is) (h (length is) (omega arith) ∙ at_head i is n)
    ∙ ap (λ xs. reloaded_instr n i ++ xs)
    (expand_same s is (past_instr n i) (λ k lt. h k (omega (arith, lt)) ∙ at_tail i is n k lt))

-- The numbers from this one on, in the order of the text.
abbrev pub numbering : ℕ → Mach → ℕ → ℕ
numbering free m = start_at m.code free

pub is_numbering : (m : Mach) (free : ℕ) → ((r : Reg) → IsRegister m r → r.number < free) →
    IsNumbering m (numbering free m) free (free + other_operands m.code)
is_numbering m free above =
    record {
      above = above;
      from = λ i next s. from_start m.code free i next s;
      rises = λ i j next rest s t. rises_past m.code free i j next rest s t;
      below_top = λ i next s. below_all m.code free i next s;
    }

pub numbered_same : (m : Mach) (free : ℕ) → reloaded_by (numbering free m) m ≡ reloaded free m
numbered_same m free = ap (λ code. record m { code = code }) (expand_same (numbering free m) m.code free (λ k lt. refl))
