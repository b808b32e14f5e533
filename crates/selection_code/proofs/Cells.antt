-- The cells of a block, by the last of them.
use Rattle.std.proofs.Common.{◌≡◌, ℕ, suc, ◌+◌, ◌*◌, List, [], ◌∷◌, ◌++◌, length, ap, ◌∙◌, arith}
use Rattle.bs_words.specs.declared.types.Chunk.{Chunk}
use Rattle.mach_ir.specs.declared.mach.Instr.{Instr}
use Rattle.mach_ir.specs.declared.reg.Reg.{Reg}
use Rattle.selection_rules.specs.Instructions as emit
use Rattle.selection_rules.specs.Select.{cell_stores}

pub cells-last : (k : Chunk) (p : Reg) (i : ℕ) (rs : List Reg) (r : Reg) (next : List Instr)
    → cell_stores k p i (rs ++ r ∷ []) next ≡ cell_stores k p i rs (emit.store k (8 * (i + length rs)) p r ∷ next)
cells-last k p i [] r next =
    let none : i ≡ i + 0 = omega arith in
    ap (λ n. emit.store k (8 * n) p r ∷ next) none
cells-last k p i (x ∷ rs) r next =
    let same : suc i + length rs ≡ i + length (x ∷ rs) = omega arith in
    ap (λ rest. emit.store k (8 * i) p x ∷ rest)
    (cells-last k p (suc i) rs r next ∙ ap (λ n. cell_stores k p (suc i) rs (emit.store k (8 * n) p r ∷ next)) same)
