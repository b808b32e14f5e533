-- An allocation of the result is one of the function, or fits one reservation.
use Rattle.std.proofs.Common.{◌≡◌, ℕ, ◌+◌, ◌≤◌, Bool, true, false, cond, ◌⊎◌, inl, inr, ⊎_elim, List, [], ◌∷◌, ◌++◌, Some, None, refl, sym, ap, ◌∙◌, subst, arith}
use Rattle.std.specs.Prelude.{nat_le}
use Rattle.std.specs.List.{Contains}
use Rattle.std.proofs.lemmas.Bool.{leb-true}
use Rattle.std.proofs.lemmas.List.{append-nil}
use Rattle.comballoc_rules.specs.Combined.{joins, open_past, allocation_scanned, scanned_at, scan_for_combining, combined}
use Rattle.comballoc_rules.specs.Neighbours.{Allocates}
use Rattle.comballoc_rules.proofs.Scan.{bytes_append, nothing_goes}
use Rattle.comballoc_rules.proofs.Registers.{Came, stays, opens, came}
use Rattle.mach_ir.specs.Blocks.{total_block_bytes}
use Rattle.mach_ir.specs.Forms.{reservation_most}
use Rattle.mach_ir.specs.declared.blocks.NewBlock.{NewBlock}
use Rattle.mach_ir.specs.declared.op.Access.TheVariants as access
use Rattle.mach_ir.specs.declared.op.Op.TheVariants as op
use Rattle.mach_ir.specs.declared.mach.MachOp.{MachOp}
use Rattle.mach_ir.specs.declared.mach.MachOp.TheVariants as mach
use Rattle.mach_ir.specs.declared.mach.Instr.{Instr}
use Rattle.mach_ir.specs.declared.mach.Mach.{Mach}
use Rattle.mach_laws.proofs.Places.{contains_of, stands_in}

-- nothing goes to the open allocation, or all of it fits
abbrev pub Fits : ℕ → List NewBlock → Type 0
Fits bytes blocks = (blocks ≡ []) ⊎ (bytes + total_block_bytes blocks ≤ reservation_most)

pub what_goes : (bytes : ℕ) (is : List Instr) → Fits bytes (scan_for_combining (Some bytes) is).blocks
what_goes bytes [] = inl refl
what_goes bytes (i ∷ is) = by i.op (λ n. what_goes n is)
  where
    joined : (blocks more : List NewBlock) → nat_le (bytes + total_block_bytes blocks) reservation_most ≡ true →
        Fits (bytes + total_block_bytes blocks) more → Fits bytes (blocks ++ more)
    joined blocks more e f =
        let le : bytes + total_block_bytes blocks ≤ reservation_most = leb-true (bytes + total_block_bytes blocks) reservation_most e in
        let g = bytes_append blocks more in
        ⊎_elim
        (λ none. let z = ap total_block_bytes none in inr (omega (arith, le, g, z)))
        (λ fits. inr (omega (arith, fits, g))) f

    by_joins : (blocks : List NewBlock) (b : Bool) → joins (Some bytes) blocks ≡ b → ((n : ℕ) → Fits n (scan_for_combining (Some n) is).blocks) →
        Fits bytes (allocation_scanned b blocks i.results (scan_for_combining (Some (cond b (bytes + total_block_bytes blocks) (total_block_bytes blocks))) is)).blocks
    by_joins blocks true e ih =
        joined blocks (scan_for_combining (Some (bytes + total_block_bytes blocks)) is).blocks e (ih (bytes + total_block_bytes blocks))
    by_joins blocks false e ih = inl refl

    by : (f : MachOp) → ((n : ℕ) → Fits n (scan_for_combining (Some n) is).blocks) →
        Fits bytes (scanned_at (Some bytes) i f (scan_for_combining (open_past (Some bytes) f) is)).blocks
    by (mach.Op (op.Pure f)) ih = ih bytes
    by (mach.Op (op.Access (access.Load k offset))) ih = ih bytes
    by (mach.Op (op.Access (access.Store k offset))) ih = ih bytes
    by (mach.Op (op.Access (access.Alloc blocks))) ih = by_joins blocks (joins (Some bytes) blocks) refl ih
    by (mach.Op (op.Calling f)) ih = inl (nothing_goes is).0
    by (mach.Op (op.Leaving f)) ih = inl (nothing_goes is).0
    by (mach.Mark f) ih = inl (nothing_goes is).0

same_blocks : (xs ys : List NewBlock) → mach.Op (op.Access (access.Alloc xs)) ≡ mach.Op (op.Access (access.Alloc ys)) → xs ≡ ys
same_blocks xs ys e = cc

pub largest : (m : Mach) (j : Instr) (blocks : List NewBlock) → Contains (combined m).code j → Allocates j blocks →
    (total_block_bytes blocks ≤ reservation_most) ⊎ ((i : Instr) × Contains m.code i × Allocates i blocks)
largest m j blocks c e =
    let s = stands_in (combined m).code j c in by j s.0 e (came None m.code j s.0 s.1)
  where
    of_size : (own more : List NewBlock) (i : Instr) → Contains m.code i → Allocates i own → own ++ more ≡ blocks →
        Fits (total_block_bytes own) more → (total_block_bytes blocks ≤ reservation_most) ⊎ ((i : Instr) × Contains m.code i × Allocates i blocks)
    of_size own more i d a same f =
        ⊎_elim
        (λ none.
        inr (i, d, subst (Allocates i) (sym (append-nil own) ∙ ap (λ bs. own ++ bs) (sym none) ∙ same) a))
        (λ fits.
        let g = bytes_append own more in
        let h = ap total_block_bytes same in
        inl (omega (arith, fits, g, h)))
        f

    by : (j : Instr) (ys : List Instr) → Allocates j blocks → Came m.code j ys →
        (total_block_bytes blocks ≤ reservation_most) ⊎ ((i : Instr) × Contains m.code i × Allocates i blocks)
    by j ys a (stays held s n t) = absurd (n blocks a)
    by j ys a (opens i {next = next} own s d same t) =
        of_size own (scan_for_combining (Some (total_block_bytes own)) next).blocks i (contains_of s) d
        (same_blocks (own ++ (scan_for_combining (Some (total_block_bytes own)) next).blocks) blocks (ap (λ (k : Instr). k.op) (sym same) ∙ a))
        (what_goes (total_block_bytes own) next)
