-- A code from which instructions are taken, in order, into two.
use Rattle.std.proofs.Common.{◌≡◌, ◌∙◌, ℕ, ◌+◌, Bool, true, false, cond, ◌&&◌, List, [], ◌∷◌, ◌++◌, length, refl, sym, ap}
use Rattle.std.proofs.lemmas.Bool.{true≢false}
use Rattle.mach_ir.specs.Walks.{StandsAsInstr, here, below}
use Rattle.mach_ir.specs.declared.mach.Instr.{Instr}
use Rattle.mach_laws.specs.Expand.{expand}
use Rattle.deadcode_rules.specs.Dropped.{may_go, unless_dropped}
use Rattle.hoist_rules.specs.Hoisted.{hoisted_instruction}
use Rattle.hoist.specs.Moves.{moves_by, left}

abbrev Part : Type 0
Part = ℕ → Instr → List Instr

-- what has been taken of a code, of which the rest is left
abbrev pub Taken : Part → List Instr → List Instr → List Instr → Type 0
Taken f code taken rest = taken ++ expand f rest ≡ expand f code

-- both parts, as far as a code is read
pub record Rebuilding (flags : List Bool) (code first others rest : List Instr) (place : ℕ) : Type 0 where
  pub at : place + length rest ≡ length code
  pub moving : Taken (hoisted_instruction (moves_by flags (length code))) code first rest
  pub staying : Taken (left (moves_by flags (length code))) code others rest

-- ---- what stays is the code without what moves

one_left : (moves : ℕ → Bool) (k : ℕ) (i : Instr) (b g : Bool) → moves k ≡ b → may_go i.op ≡ g → (moves k ≡ true → may_go i.op ≡ true) →
    cond b [] (i ∷ []) ≡ cond (g && b) [] (i ∷ [])
one_left moves k i true true e h goes = refl
one_left moves k i true false e h goes = absurd (true≢false (sym (goes e) ∙ h))
one_left moves k i false true e h goes = refl
one_left moves k i false false e h goes = refl

pub left_without : (moves : ℕ → Bool) (code : List Instr) →
    ((i : Instr) (next : List Instr) → StandsAsInstr i next code → moves (length next) ≡ true → may_go i.op ≡ true) →
    expand (left moves) code ≡ expand (unless_dropped moves) code
left_without moves [] goes = refl
left_without moves (i ∷ is) goes =
    ap (λ xs. xs ++ expand (left moves) is)
    (one_left moves (length is) i (moves (length is)) (may_go i.op) refl refl (goes i is here))
    ∙ ap (λ xs. unless_dropped moves (length is) i ++ xs) (left_without moves is (λ j next s. goes j next (below s)))

-- ---- where nothing moves

pub none_moved : (moves : ℕ → Bool) → ((k : ℕ) → moves k ≡ false) → (code : List Instr) → expand (hoisted_instruction moves) code ≡ []
none_moved moves none [] = refl
none_moved moves none (i ∷ is) =
    ap (λ b. cond b (i ∷ []) [] ++ expand (hoisted_instruction moves) is) (none (length is)) ∙ none_moved moves none is

pub all_stay : (moves : ℕ → Bool) → ((k : ℕ) → moves k ≡ false) → (code : List Instr) → expand (left moves) code ≡ code
all_stay moves none [] = refl
all_stay moves none (i ∷ is) =
    ap (λ b. cond b [] (i ∷ []) ++ expand (left moves) is) (none (length is)) ∙ ap (λ xs. i ∷ xs) (all_stay moves none is)
