-- A function with the constants of its loops first is hoisted, and is one.
use Rattle.std.proofs.Common.{◌≡◌, ◌∙◌, ℕ, Bool, cond, ◌&&◌, List, [], ◌∷◌, ◌++◌, length, refl, sym, ap}
use Rattle.mach_ir.specs.Formed.{WellFormed}
use Rattle.mach_ir.specs.Walks.{StandsAsInstr, here, below}
use Rattle.mach_ir.specs.declared.mach.Instr.{Instr}
use Rattle.mach_ir.specs.declared.mach.Mach.{Mach}
use Rattle.mach_laws.specs.Expand.{expand}
use Rattle.deadcode_rules.specs.Dropped.{may_go, unless_dropped}
use Rattle.bs_words.proofs.Truths.{bool_same}
use Rattle.hoist_rules.specs.Hoisted.{hoisted_instruction, IsHoisted, IsHoistKept}
use Rattle.hoist_rules.specs.Chosen.{HasConstantsFirst}
use Rattle.hoist_rules.proofs.Carried.{hoisted_kept}

pub constants_first_hoisted : (m q : Mach) → HasConstantsFirst m q → IsHoisted m q
constants_first_hoisted m q h =
    record { moves = h.moves; may = λ i next s e. ((h.chosen i next s).0 e).may; is = h.is }

pub constants_first_kept : (m q : Mach) → WellFormed m → HasConstantsFirst m q → IsHoistKept m q
constants_first_kept m q formed h = hoisted_kept m q formed (constants_first_hoisted m q h)

-- ---- one result

-- two ways to move, which say the same of each instruction
abbrev MoveTheSame : Mach → (ℕ → Bool) → (ℕ → Bool) → Type 0
MoveTheSame m x y =
    (i : Instr) (next : List Instr) → StandsAsInstr i next m.code → x (length next) ≡ y (length next)

same_code : (m : Mach) (x y : ℕ → Bool) → MoveTheSame m x y → (code : List Instr) →
    ((i : Instr) (next : List Instr) → StandsAsInstr i next code → StandsAsInstr i next m.code) →
    (expand (hoisted_instruction x) code ≡ expand (hoisted_instruction y) code) × (expand (unless_dropped x) code ≡ expand (unless_dropped y) code)
same_code m x y same [] known = (refl, refl)
same_code m x y same (i ∷ is) known =
    let e = same i is (known i is here) in
    let ih = same_code m x y same is (λ j next s. known j next (below s)) in (
      ap (λ b. cond b (i ∷ []) [] ++ expand (hoisted_instruction x) is) e ∙ ap (λ xs. hoisted_instruction y (length is) i ++ xs) ih.0,
      ap (λ b. cond (may_go i.op && b) [] (i ∷ []) ++ expand (unless_dropped x) is) e
          ∙ ap (λ xs. unless_dropped y (length is) i ++ xs) ih.1,
    )

pub one_constants_first : (m q k : Mach) → HasConstantsFirst m q → HasConstantsFirst m k → q ≡ k
one_constants_first m q k a b =
    let same : MoveTheSame m a.moves b.moves =
    λ i next s.
    bool_same (a.moves (length next)) (b.moves (length next))
    (λ e. (b.chosen i next s).1 ((a.chosen i next s).0 e)) (λ e. (a.chosen i next s).1 ((b.chosen i next s).0 e)) in
    let e = same_code m a.moves b.moves same m.code (λ i next s. s) in
    a.is
    ∙ ap (λ code. record m { code = code ++ expand (unless_dropped a.moves) m.code }) e.0
    ∙ ap (λ code. record m { code = expand (hoisted_instruction b.moves) m.code ++ code }) e.1
    ∙ sym b.is
