-- The result is no larger, and has no other registers.
use Rattle.std.proofs.Common.{ℕ, ◌+◌, ◌≤◌, Bool, true, false, ◌⊎◌, inl, inr, ⊎_elim, List, [], ◌∷◌, length, Option, Some, None, subst, arith}
use Rattle.std.specs.List.{Contains}
use Rattle.std.proofs.lemmas.List.{length-append}
use Rattle.std.proofs.lemmas.List.Elements.{Contains-append_cases}
use Rattle.bs_words.proofs.Lists.{none_in}
use Rattle.comballoc_rules.specs.Combined.{joins, bytes_past, open_past, Scanned, allocation_scanned, scanned_at, scan_for_combining, combined}
use Rattle.comballoc_rules.proofs.Registers.{Came, stays, opens, came, awaited, awaits_in}
use Rattle.mach_ir.specs.Sizes.{operand_count, Size, HasSize}
use Rattle.mach_ir.specs.Walks.{StandsAsInstr, here, below, InCode, in_args, in_results, further, IsRegister, is_param, is_colour, is_in_code}
use Rattle.mach_ir.specs.declared.blocks.NewBlock.{NewBlock}
use Rattle.mach_ir.specs.declared.op.Access.TheVariants as access
use Rattle.mach_ir.specs.declared.op.Op.TheVariants as op
use Rattle.mach_ir.specs.declared.reg.Reg.{Reg}
use Rattle.mach_ir.specs.declared.mach.MachOp.{MachOp}
use Rattle.mach_ir.specs.declared.mach.MachOp.TheVariants as mach
use Rattle.mach_ir.specs.declared.mach.Instr.{Instr}
use Rattle.mach_ir.specs.declared.mach.Mach.{Mach}

-- ---- registers

-- a register of a code is one of some instruction there
record Somewhere (r : Reg) (code : List Instr) : Type 0 where
  instr : Instr
  next : List Instr
  stands : StandsAsInstr instr next code
  has : Contains instr.args r ⊎ Contains instr.results r

somewhere : {r : Reg} {code : List Instr} → InCode r code → Somewhere r code
somewhere (in_args {i = i} {is = is} c) = record { instr = i; next = is; stands = here; has = inl c }
somewhere (in_results {i = i} {is = is} c) = record { instr = i; next = is; stands = here; has = inr c }
somewhere (further o) =
    let s = somewhere o in record { instr = s.instr; next = s.next; stands = below s.stands; has = s.has }

in_code : {r : Reg} {i : Instr} {next code : List Instr} → StandsAsInstr i next code → InCode r (i ∷ next) → InCode r code
in_code here o = o
in_code (below s) o = further (in_code s o)

pub code_before : {r : Reg} (held : Option ℕ) (code : List Instr) → InCode r (scan_for_combining held code).code → InCode r code
code_before {r} held code o =
    let s = somewhere o in by s.instr s.next (came held code s.instr s.next s.stands) s.has
  where
    by : (j : Instr) (ys : List Instr) → Came code j ys → Contains j.args r ⊎ Contains j.results r → InCode r code
    by j ys (stays h s n e) c = ⊎_elim (λ z. in_code s (in_args z)) (λ z. in_code s (in_results z)) c
    by j ys (opens i {next = next} blocks s e same t) c =
        ⊎_elim (λ z. absurd (none_in r (subst (λ (k : Instr). Contains k.args r) same z)))
        (λ z.
        ⊎_elim (λ y. in_code s (in_results y))
        (λ y. in_code s (further (awaits_in (awaited (Some (bytes_past None blocks)) next r y))))
        (Contains-append_cases i.results (scan_for_combining (Some (bytes_past None blocks)) next).results r
        (subst (λ (k : Instr). Contains k.results r) same z)))
        c

pub register_before : (m : Mach) (r : Reg) → IsRegister (combined m) r → IsRegister m r
register_before m r (is_param c) = is_param c
register_before m r (is_colour c) = is_colour c
register_before m r (is_in_code o) = is_in_code (code_before None m.code o)

-- ---- sizes

-- a scan leaves no more instructions, and no more operands and results with those that go to the open allocation
pub record NoMore (is : List Instr) (s : Scanned) : Type 0 where
  pub instrs : length s.code ≤ length is
  pub operands : operand_count s.code + length s.results ≤ operand_count is

no_more : (held : Option ℕ) (is : List Instr) → NoMore is (scan_for_combining held is)
no_more held [] = record { instrs = omega arith; operands = omega arith }
no_more held (i ∷ is) = by i.op (λ o. no_more o is)
  where
    kept : (s : Scanned) → NoMore is s → NoMore (i ∷ is) (record s { code = i ∷ s.code })
    kept s h =
        let a = h.instrs in
        let b = h.operands in
        record { instrs = omega (arith, a); operands = omega (arith, b) }

    by_joins : (b : Bool) (blocks : List NewBlock) (s : Scanned) → NoMore is s → NoMore (i ∷ is) (allocation_scanned b blocks i.results s)
    by_joins true blocks s h =
        let a = h.instrs in
        let b = h.operands in
        let e = length-append i.results s.results in
        record { instrs = omega (arith, a); operands = omega (arith, b, e) }
    by_joins false blocks s h =
        let a = h.instrs in
        let b = h.operands in
        let e = length-append i.results s.results in
        record { instrs = omega (arith, a); operands = omega (arith, b, e) }

    by : (f : MachOp) → ((o : Option ℕ) → NoMore is (scan_for_combining o is)) → NoMore (i ∷ is) (scanned_at held i f (scan_for_combining (open_past held f) is))
    by (mach.Op (op.Pure f)) ih = kept (scan_for_combining held is) (ih held)
    by (mach.Op (op.Access (access.Load k offset))) ih = kept (scan_for_combining held is) (ih held)
    by (mach.Op (op.Access (access.Store k offset))) ih = kept (scan_for_combining held is) (ih held)
    by (mach.Op (op.Access (access.Alloc blocks))) ih =
        by_joins (joins held blocks) blocks (scan_for_combining (Some (bytes_past held blocks)) is) (ih (Some (bytes_past held blocks)))
    by (mach.Op (op.Calling f)) ih = kept (scan_for_combining None is) (ih None)
    by (mach.Op (op.Leaving f)) ih = kept (scan_for_combining None is) (ih None)
    by (mach.Mark f) ih = kept (scan_for_combining None is) (ih None)

pub size : (m : Mach) (s : Size) → HasSize m s → HasSize (combined m) s
size m s h =
    let n = no_more None m.code in
    let a = n.instrs in
    let b = n.operands in
    let x = h.instrs in
    let y = h.operands in
    record {
      instrs = omega (arith, a, x);
      operands = omega (arith, b, y);
      numbers = λ r i. h.numbers r (register_before m r i);
      origins = λ r i. h.origins r (register_before m r i);
      labels = h.labels;
    }
