-- A scan takes an instruction.
use Rattle.std.proofs.Common.{◌≡◌, ℕ, ◌+◌, true, false, cond, List, [], ◌∷◌, ◌++◌, Option, Some, None, refl, sym, ap, ◌∙◌, append_assoc}
use Rattle.comballoc_rules.specs.Combined.{joins, Scanned, allocation, open_past, allocation_scanned, scanned_at, scan_for_combining}
use Rattle.comballoc_rules.proofs.Scan.{bytes_append, nothing_goes}
use Rattle.comballoc.specs.Finished.{held_bytes, closed, closed_by, finished_scan, HasTaken}
use Rattle.comballoc.specs.declared.combining.Held.{Held}
use Rattle.comballoc.specs.declared.combining.Scan.{Scan}
use Rattle.std.proofs.lemmas.Bool.{true≢false}
use Rattle.mach_ir.specs.Blocks.{total_block_bytes}
use Rattle.mach_ir.specs.Placed.{is_straight}
use Rattle.mach_ir.specs.declared.op.Op.TheVariants as op
use Rattle.mach_ir.specs.declared.mach.MachOp.{MachOp}
use Rattle.mach_ir.specs.declared.mach.MachOp.TheVariants as mach
use Rattle.mach_ir.specs.declared.blocks.NewBlock.{NewBlock}
use Rattle.mach_ir.specs.declared.reg.Reg.{Reg}
use Rattle.mach_ir.specs.declared.mach.Instr.{Instr}
use Rattle.mach_ir.proofs.Keeping.{appended_none}

-- an open allocation with these blocks and results, and the instructions after it
abbrev laid : List NewBlock → List Reg → List Instr → Scanned → List Instr
laid blocks results since after =
    allocation (blocks ++ after.blocks) (results ++ after.results) ∷ (since ++ after.code)

laid_same : {blocks others : List NewBlock} {results regs : List Reg} {since code : List Instr} (after : Scanned) →
    blocks ≡ others → results ≡ regs → since ≡ code → laid blocks results since after ≡ laid others regs code after
laid_same {others = others} {results = results} {regs = regs} {since = since} after b r s =
    ap (λ bs. laid bs results since after) b ∙ ap (λ rs. laid others rs since after) r
    ∙ ap (λ is. laid others regs is after) s

laid_more : (blocks more : List NewBlock) (results regs : List Reg) (since : List Instr) (after : Scanned) →
    laid (blocks ++ more) (results ++ regs) since after
    ≡ laid blocks results since (allocation_scanned true more regs after)
laid_more blocks more results regs since after =
    ap (λ bs. allocation bs ((results ++ regs) ++ after.results) ∷ (since ++ after.code)) (append_assoc blocks more after.blocks)
    ∙ ap (λ rs. allocation (blocks ++ (more ++ after.blocks)) rs ∷ (since ++ after.code)) (append_assoc results regs after.results)

-- an allocation has joined the open one
pub joined : (s : Scan) (h t : Held) (blocks : List NewBlock) (results : List Reg) → s.held ≡ Some h →
    joins (Some (total_block_bytes h.blocks)) blocks ≡ true → t.blocks ≡ h.blocks ++ blocks →
    t.results.items ≡ h.results.items ++ results → t.since ≡ h.since →
    HasTaken s (record { alloc = s.alloc; done = s.done; held = Some t }) (allocation blocks results)
joined s h t blocks results held fits b r e rest =
    ap (λ is. s.done.items ++ is)
    (ap (λ n. laid t.blocks t.results.items t.since.items (scan_for_combining (Some n) rest)) (ap total_block_bytes b ∙ bytes_append h.blocks blocks)
    ∙ laid_same (scan_for_combining (Some (total_block_bytes h.blocks + total_block_bytes blocks)) rest) b r (ap (λ v. v.items) e)
    ∙ laid_more h.blocks blocks h.results.items results h.since.items (scan_for_combining (Some (total_block_bytes h.blocks + total_block_bytes blocks)) rest)
    ∙ ap
    (λ b. laid h.blocks h.results.items h.since.items
    (allocation_scanned b blocks results (scan_for_combining (Some (cond b (total_block_bytes h.blocks + total_block_bytes blocks) (total_block_bytes blocks))) rest)))
    (sym fits)
    ∙ ap (λ o. closed_by o (scan_for_combining (held_bytes o) (allocation blocks results ∷ rest))) (sym held))

-- where nothing goes to the open allocation
closed_alone : (o : Option Held) (after : Scanned) → after.blocks ≡ [] → after.results ≡ [] →
    closed o ++ after.code ≡ closed_by o after
closed_alone None after b r = refl
closed_alone (Some h) after b r =
    ap (λ bs. allocation bs h.results.items ∷ (h.since.items ++ after.code))
    (sym (appended_none h.blocks) ∙ ap (λ bs. h.blocks ++ bs) (sym b))
    ∙ ap (λ rs. allocation (h.blocks ++ after.blocks) rs ∷ (h.since.items ++ after.code))
    (sym (appended_none h.results.items) ∙ ap (λ rs. h.results.items ++ rs) (sym r))

-- an instruction that ends the straight run stays, and nothing goes further back
ends_run : (i : Instr) → is_straight i.op ≡ false → (o : Option ℕ) (rest : List Instr) →
    scan_for_combining o (i ∷ rest) ≡ record (scan_for_combining None rest) { code = i ∷ (scan_for_combining None rest).code }
ends_run i e o rest = by i.op e
  where
    by : (f : MachOp) → is_straight f ≡ false →
        scanned_at o i f (scan_for_combining (open_past o f) rest) ≡ record (scan_for_combining None rest) { code = i ∷ (scan_for_combining None rest).code }
    by (mach.Op (op.Pure f)) e = absurd (true≢false e)
    by (mach.Op (op.Access f)) e = absurd (true≢false e)
    by (mach.Op (op.Calling f)) e = refl
    by (mach.Op (op.Leaving f)) e = refl
    by (mach.Mark f) e = refl

pub ended : (s t : Scan) (i : Instr) → is_straight i.op ≡ false → t.held ≡ None →
    t.done.items ≡ (s.done.items ++ closed s.held) ++ i ∷ [] → HasTaken s t i
ended s t i e held done rest =
    let after : Scanned = scan_for_combining None rest in
    ap (λ o. t.done.items ++ closed_by o (scan_for_combining (held_bytes o) rest)) held
    ∙ ap (λ is. is ++ after.code) done
    ∙ append_assoc (s.done.items ++ closed s.held) (i ∷ []) after.code
    ∙ append_assoc s.done.items (closed s.held) (i ∷ after.code)
    ∙ ap (λ is. s.done.items ++ is)
    (closed_alone s.held (record after { code = i ∷ after.code }) (nothing_goes rest).0 (nothing_goes rest).1
    ∙ ap (closed_by s.held) (sym (ends_run i e (held_bytes s.held) rest)))

-- at the end of the code
pub all_done : (s : Scan) → finished_scan s [] ≡ s.done.items ++ closed s.held
all_done s =
    ap (λ is. s.done.items ++ is)
    (sym (closed_alone s.held (scan_for_combining (held_bytes s.held) []) refl refl) ∙ appended_none (closed s.held))
