-- Combined allocation carries: an allocation that joins another has no words of its own, and no frame point.
use Rattle.std.proofs.Common.{◌≡◌, ℕ, ◌+◌, ◌*◌, ◌≤◌, Bool, true, false, List, [], ◌∷◌, length, Option, Some, None, sym, ap, ◌∙◌, subst, arith}
use Rattle.std.specs.List.{All, Contains}
use Rattle.std.specs.Prelude.{slice_index_or}
use Rattle.std.proofs.lemmas.List.{length-append}
use Rattle.std.proofs.lemmas.List.Elements.{Contains-get_or, All-contains}
use Rattle.comballoc_rules.specs.Combined.{joins, bytes_past, open_past, Scanned, allocation_scanned, scanned_at, scan_for_combining, combined}
use Rattle.comballoc_rules.proofs.Formed.{tries_scan}
use Rattle.comballoc_rules.proofs.Registers.{Came, stays, opens, came}
use Rattle.comballoc_rules.proofs.Sizes.{register_before}
use Rattle.mach_ir.specs.Formed.{is_exit, WellFormed}
use Rattle.mach_ir.specs.Meaning.{tries_at, tries_past}
use Rattle.mach_ir.specs.declared.blocks.NewBlock.{NewBlock}
use Rattle.mach_ir.specs.declared.op.Access.TheVariants as access
use Rattle.mach_ir.specs.declared.op.Op.TheVariants as op
use Rattle.mach_ir.specs.declared.reg.Reg.{Reg}
use Rattle.mach_ir.specs.declared.mach.Instr.{Instr}
use Rattle.mach_ir.specs.declared.mach.Mach.{Mach}
use Rattle.mach_ir.specs.declared.mach.MachOp.{MachOp}
use Rattle.mach_ir.specs.declared.mach.MachOp.TheVariants as mach
use Rattle.pass_rules.specs.Carried.{TriesAtMost, OffsetFits, EndsInReturn, at_return, further, IsCarried}
use Rattle.pass_rules.specs.Measures.{code_words, code_points, exit_count, other_operands}
use Rattle.pass_rules.proofs.Words.{exits_both}
use Rattle.mach_laws.proofs.Instructions.{instr}
use Rattle.mach_laws.proofs.Places.{contains_of, stands_in}

-- ---- measures

-- What a scan leaves has no more, with the results that go to the open allocation.
record NoMore (is : List Instr) (s : Scanned) : Type 0 where
  words : code_words s.code + 16 * length s.results ≤ code_words is
  points : code_points s.code ≤ code_points is
  operands : other_operands s.code + length s.results ≤ other_operands is
  exits : exit_count s.code ≤ exit_count is

no_more : (held : Option ℕ) (is : List Instr) → NoMore is (scan_for_combining held is)
no_more held [] = record { words = omega arith; points = omega arith; operands = omega arith; exits = omega arith }
no_more held (i ∷ is) = by i.op i.args i.results (λ o. no_more o is)
  where
    kept : (i : Instr) (s : Scanned) → NoMore is s → NoMore (i ∷ is) (record s { code = i ∷ s.code })
    kept i s h =
        let a = h.words in
        let b = h.points in
        let c = h.operands in
        record {
          words = omega (arith, a);
          points = omega (arith, b);
          operands = omega (arith, c);
          exits = exits_both (is_exit i.op) (exit_count s.code) (exit_count is) h.exits;
        }

    by_joins : (b : Bool) (blocks : List NewBlock) (args results : List Reg) (s : Scanned) → NoMore is s →
        NoMore (instr (mach.Op (op.Access (access.Alloc blocks))) args results ∷ is) (allocation_scanned b blocks results s)
    by_joins true blocks args results s h =
        let a = h.words in
        let b = h.points in
        let c = h.operands in
        let e = length-append results s.results in
        record { words = omega (arith, a, e); points = omega (arith, b); operands = omega (arith, c, e); exits = h.exits }
    by_joins false blocks args results s h =
        let a = h.words in
        let b = h.points in
        let c = h.operands in
        let e = length-append results s.results in
        record { words = omega (arith, a, e); points = omega (arith, b); operands = omega (arith, c, e); exits = h.exits }

    by : (f : MachOp) (args results : List Reg) → ((o : Option ℕ) → NoMore is (scan_for_combining o is)) →
        NoMore (instr f args results ∷ is) (scanned_at held (instr f args results) f (scan_for_combining (open_past held f) is))
    by (mach.Op (op.Pure f)) args results ih = kept (instr (mach.Op (op.Pure f)) args results) (scan_for_combining held is) (ih held)
    by (mach.Op (op.Access (access.Load k offset))) args results ih =
        kept (instr (mach.Op (op.Access (access.Load k offset))) args results) (scan_for_combining held is) (ih held)
    by (mach.Op (op.Access (access.Store k offset))) args results ih =
        kept (instr (mach.Op (op.Access (access.Store k offset))) args results) (scan_for_combining held is) (ih held)
    by (mach.Op (op.Access (access.Alloc blocks))) args results ih =
        by_joins (joins held blocks) blocks args results (scan_for_combining (Some (bytes_past held blocks)) is) (ih (Some (bytes_past held blocks)))
    by (mach.Op (op.Calling f)) args results ih = kept (instr (mach.Op (op.Calling f)) args results) (scan_for_combining None is) (ih None)
    by (mach.Op (op.Leaving f)) args results ih = kept (instr (mach.Op (op.Leaving f)) args results) (scan_for_combining None is) (ih None)
    by (mach.Mark f) args results ih = kept (instr (mach.Mark f) args results) (scan_for_combining None is) (ih None)

-- ---- the end

still_ends : (held : Option ℕ) {code : List Instr} → EndsInReturn code → EndsInReturn (scan_for_combining held code).code
still_ends held at_return = at_return
still_ends held (further {i = i} {is = is} e) = by i.op (λ o. still_ends o e)
  where
    by_joins : (b : Bool) (blocks : List NewBlock) (s : Scanned) → EndsInReturn s.code → EndsInReturn (allocation_scanned b blocks i.results s).code
    by_joins true blocks s h = h
    by_joins false blocks s h = further h

    by : (f : MachOp) → ((o : Option ℕ) → EndsInReturn (scan_for_combining o is).code) → EndsInReturn (scanned_at held i f (scan_for_combining (open_past held f) is)).code
    by (mach.Op (op.Pure f)) ih = further (ih held)
    by (mach.Op (op.Access (access.Load k offset))) ih = further (ih held)
    by (mach.Op (op.Access (access.Store k offset))) ih = further (ih held)
    by (mach.Op (op.Access (access.Alloc blocks))) ih =
        by_joins (joins held blocks) blocks (scan_for_combining (Some (bytes_past held blocks)) is) (ih (Some (bytes_past held blocks)))
    by (mach.Op (op.Calling f)) ih = further (ih None)
    by (mach.Op (op.Leaving f)) ih = further (ih None)
    by (mach.Mark f) ih = further (ih None)

module _ (m : Mach) where
  abbrev q : Mach
  q = combined m

  still_tries : (most : ℕ) → TriesAtMost m most → TriesAtMost q most
  still_tries most known j ys s = by (came None m.code j ys s)
    where
      alloc_tries : (f : MachOp) {blocks : List NewBlock} (ts : List ℕ) → f ≡ mach.Op (op.Access (access.Alloc blocks)) →
          tries_past f ts ≡ ts
      alloc_tries f ts e = ap (λ g. tries_past g ts) e

      by : Came m.code j ys → length (tries_at (j ∷ ys)) ≤ most
      by (stays {next = next} held z n e) =
          subst (λ ts. length (tries_past j.op ts) ≤ most) (sym (ap tries_at e ∙ tries_scan held next)) (known j next z)
      by (opens i {next = next} blocks z e same t) =
          subst (λ ts. length ts ≤ most)
          (alloc_tries i.op (tries_at next) e
          ∙ sym (ap tries_at t ∙ tries_scan (Some (bytes_past None blocks)) next)
          ∙ sym (ap (λ (k : Instr). tries_past k.op (tries_at ys)) same))
          (known i next z)

  still_fits : All (λ (i : Instr). OffsetFits i.op) m.code → (j : Instr) → Contains q.code j → OffsetFits j.op
  still_fits fit j c = let s = stands_in q.code j c in by (came None m.code j s.0 s.1)
    where
      by : {ys : List Instr} → Came m.code j ys → OffsetFits j.op
      by (stays held z n e) = All-contains (λ (i : Instr). OffsetFits i.op) m.code j fit (contains_of z)
      by (opens i blocks z e same t) = subst (λ (k : Instr). OffsetFits k.op) (sym same) tt

  carried : IsCarried 0 m (combined m)
  carried =
      let h = no_more None m.code in
      let a = h.words in
      let b = h.operands in
      record {
        words = omega (arith, a);
        points = h.points;
        operands = omega (arith, b);
        exits = h.exits;
        tries = still_tries;
        offsets = λ fit k d lt.
            still_fits fit (slice_index_or q.code k d) (Contains-get_or q.code k d lt);
        ends = still_ends None;
        colours_low = λ low r k c i e. low r k c (register_before m k i) e;
      }

-- Combined allocation carries.
pub combined_carried : (m : Mach) → WellFormed m → IsCarried 0 m (combined m)
combined_carried m formed = carried m
