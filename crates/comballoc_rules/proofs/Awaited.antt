-- What is known of registers that go to an open allocation.
use Rattle.std.proofs.Common.{◌≡◌, ℕ, suc, ◌<◌, Bool, true, false, ⊎_elim, List, [], ◌∷◌, ◌++◌, length, Option, Some, None, refl, sym, ap, ◌∙◌, subst, arith}
use Rattle.std.specs.List.{Contains}
use Rattle.std.proofs.lemmas.List.{length-append}
use Rattle.std.proofs.lemmas.List.Elements.{All-contains}
use Rattle.bs_words.specs.declared.types.Comp.{Comp}
use Rattle.bs_words.proofs.Lists.{first_in, later_in}
use Rattle.comballoc_rules.specs.Combined.{joins, bytes_past, open_past, Scanned, allocation, allocation_scanned, scanned_at, scan_for_combining}
use Rattle.comballoc_rules.specs.Kept.{holds_block, IsCombinable}
use Rattle.comballoc_rules.specs.Neighbours.{Allocates}
use Rattle.comballoc_rules.proofs.Files.{Homes, no_homes, a_home, Distinct, no_regs, one_more}
use Rattle.comballoc_rules.proofs.Registers.{Awaits, awaits_here, awaits_on, awaited}
use Rattle.comballoc_rules.proofs.Scan.{nothing_goes}
use Rattle.mach_ir.specs.Forms as form
use Rattle.mach_ir.specs.Forms.{HasForm}
use Rattle.mach_ir.specs.Formed.{IsFormedInstruction, formed_op, formed_mark, AreDistinct, comps}
use Rattle.mach_ir.specs.Placed.{is_straight, AreStraight, IsFresh}
use Rattle.mach_ir.specs.Walks.{AmongRegisters, first, later, StandsAsInstr, Writes}
use Rattle.mach_ir.specs.declared.blocks.NewBlock.{NewBlock}
use Rattle.mach_ir.specs.declared.op.Access.TheVariants as access
use Rattle.mach_ir.specs.declared.op.Op.TheVariants as op
use Rattle.mach_ir.specs.declared.reg.Reg.{Reg}
use Rattle.mach_ir.specs.declared.mach.MachOp.{MachOp}
use Rattle.mach_ir.specs.declared.mach.MachOp.TheVariants as mach
use Rattle.mach_ir.specs.declared.mach.Instr.{Instr}
use Rattle.mach_ir.specs.declared.mach.Mach.{Mach}
use Rattle.mach_laws.specs.Expand.{Ending}
use Rattle.mach_laws.proofs.Places.{ending_next, stands_of, straight_cons, contains_of}
use Rattle.mach_laws.proofs.Among.{left_among, split_among, number_among}
use Rattle.mach_laws.proofs.Instructions.{same_op, no_mark, no_comps, length_comps}

-- ---- allocations that are formed

pub record IsAllocation (i : Instr) (blocks : List NewBlock) : Type 0 where
  pub is : i ≡ allocation blocks i.results
  pub sized : length i.results ≡ length blocks

of_form : (blocks : List NewBlock) (ts ds : List Comp) → HasForm (op.Access (access.Alloc blocks)) ts ds →
    (ts ≡ []) × (length ds ≡ length blocks)
of_form blocks ts ds (form.allocates n a le e) = (refl, e)

pub formed_allocation : {i : Instr} → IsFormedInstruction i → (blocks : List NewBlock) → Allocates i blocks → IsAllocation i blocks
formed_allocation (formed_op {f = f} {args = args} {results = results} h) blocks e =
    let same : f ≡ op.Access (access.Alloc blocks) = same_op f (op.Access (access.Alloc blocks)) e in
    let k = of_form blocks (comps args) (comps results) (subst (λ g. HasForm g (comps args) (comps results)) same h) in
    record {
      is = ap (λ g. record { op = mach.Op g; args = args; results = results }) same
          ∙ ap (λ rs. record { op = mach.Op (op.Access (access.Alloc blocks)); args = rs; results = results }) (no_comps args k.0);
      sized = sym (length_comps results) ∙ k.1;
    }
formed_allocation (formed_mark {f = f} h) blocks e = absurd (no_mark f (op.Access (access.Alloc blocks)) e)

-- ---- lists

no_instrs : AreStraight []
no_instrs = λ k d lt. absurd (omega (arith, lt))

homes_of_all : (rs : List Reg) → ((r : Reg) → Contains rs r → holds_block r.comp ≡ true) → Homes rs
homes_of_all [] h = no_homes
homes_of_all (r ∷ rs) h = a_home (h r (first_in r rs)) (homes_of_all rs (λ q c. h q (later_in r q rs c)))

pub distinct_of_pairs : (rs : List Reg) → AreDistinct rs → Distinct rs
distinct_of_pairs [] h = no_regs
distinct_of_pairs (r ∷ rs) h =
    one_more
    (λ a.
    let q = number_among rs a in
    let at = q.1 in
    h 0 (suc at.0) q.0 (omega arith) (by at.0 at.1) (sym q.2 ∙ sym (ap (λ (x : Reg). x.number) (at.2))))
    (distinct_of_pairs rs (λ i j d lt within. h (suc i) (suc j) d (omega (arith, lt)) (omega (arith, within))))
  where
    by : (k : ℕ) → k < length rs → suc k < length (r ∷ rs)
    by k lt = omega (arith, lt)

pub distinct_append : {xs ys : List Reg} → Distinct xs → Distinct ys → ((n : ℕ) → AmongRegisters n xs → AmongRegisters n ys → ⊥) → Distinct (xs ++ ys)
distinct_append no_regs d apart = d
distinct_append {xs} {ys} (one_more {r = r} {rs = rs} free e) d apart =
    one_more (λ i. ⊎_elim free (λ j. apart r.number (first refl) j) (split_among r.number rs ys i))
    (distinct_append e d (λ n i j. apart n (later i) j))

module _ (m : Mach) (is : IsCombinable m) where
  pub allocation_at : {i : Instr} {next : List Instr} → Ending (i ∷ next) m.code → (blocks : List NewBlock) → Allocates i blocks →
      IsAllocation i blocks
  allocation_at {i} e blocks a =
      formed_allocation (All-contains IsFormedInstruction m.code i (is.formed).instrs (contains_of (stands_of e))) blocks a

  -- ---- where a register is awaited

  pub record Fresh (r : Reg) (rest : List Instr) : Type 0 where
    pub run : List Instr
    pub alloc : Instr
    pub tail : List Instr
    pub splits : rest ≡ run ++ alloc ∷ tail
    pub straight : AreStraight run
    pub fresh : IsFresh m alloc tail r
    pub home : holds_block r.comp ≡ true

  pub fresh_of : {r : Reg} {rest : List Instr} → Ending rest m.code → Awaits r rest → Fresh r rest
  fresh_of {r} e (awaits_here {i = i} {is = next} blocks a c) =
      record {
        run = [];
        alloc = i;
        tail = next;
        splits = refl;
        straight = no_instrs;
        fresh = (is.allocates).fresh i next (stands_of e) blocks a r c;
        home = is.starts i blocks (contains_of (stands_of e)) a r c;
      }
  fresh_of e (awaits_on {i = i} s a) =
      let f = fresh_of (ending_next e) a in
      record {
        run = i ∷ f.run;
        alloc = f.alloc;
        tail = f.tail;
        splits = ap (λ xs. i ∷ xs) f.splits;
        straight = straight_cons i f.run s f.straight;
        fresh = f.fresh;
        home = f.home;
      }

  longer : (run tail : List Instr) (i : Instr) → run ++ i ∷ tail ≡ tail → ⊥
  longer run tail i e =
      let g = length-append run (i ∷ tail) in
      let h = ap length e in
      absurd (omega (arith, g, h))

  -- what is awaited after an instruction is not written by it
  pub unwritten : {r : Reg} {i : Instr} {next : List Instr} → Ending (i ∷ next) m.code → Awaits r next → Writes m i r.number → ⊥
  unwritten {i = i} {next = next} e a w =
      let f = fresh_of (ending_next e) a in
      longer f.run f.tail f.alloc (sym f.splits ∙ (f.fresh).once i next (stands_of e) w)

  -- nor read by it in the run
  pub unread : {r : Reg} {i : Instr} {next : List Instr} → Ending (i ∷ next) m.code → is_straight i.op ≡ true → Awaits r next →
      AmongRegisters r.number i.args → ⊥
  unread {i = i} {next = next} e s a c =
      let f = fresh_of (ending_next e) a in
      (f.fresh).unread i f.run (subst (λ xs. StandsAsInstr i xs m.code) f.splits (stands_of e)) (straight_cons i f.run s f.straight) c

  -- ---- what goes to an open allocation

  pub homes : (held : Option ℕ) (rest : List Instr) → Ending rest m.code → Homes (scan_for_combining held rest).results
  homes held rest e = homes_of_all (scan_for_combining held rest).results (λ r c. (fresh_of e (awaited held rest r c)).home)

  -- where a number among these stands for a register
  pub awaited_number : {n : ℕ} (held : Option ℕ) (rest : List Instr) → AmongRegisters n (scan_for_combining held rest).results →
      (r : Reg) × Awaits r rest × (r.number ≡ n)
  awaited_number held rest a =
      let q = number_among (scan_for_combining held rest).results a in (q.0, awaited held rest q.0 q.1, q.2)

  pub apart_from : {n : ℕ} (held : Option ℕ) {i : Instr} {next : List Instr} → Ending (i ∷ next) m.code →
      AmongRegisters n (scan_for_combining held next).results → Writes m i n → ⊥
  apart_from held {i} {next} e a w =
      let q = awaited_number held next a in unwritten e q.1 (subst (Writes m i) (sym q.2) w)

  pub not_read : {n : ℕ} (held : Option ℕ) {i : Instr} {next : List Instr} → Ending (i ∷ next) m.code → is_straight i.op ≡ true →
      AmongRegisters n (scan_for_combining held next).results → AmongRegisters n i.args → ⊥
  not_read held {i} {next} e s a c =
      let q = awaited_number held next a in unread e s q.1 (subst (λ n. AmongRegisters n i.args) (sym q.2) c)

  pub distinct : (held : Option ℕ) (rest : List Instr) → Ending rest m.code → Distinct (scan_for_combining held rest).results
  distinct held [] e = no_regs
  distinct held (i ∷ next) e = by i.op (λ o. distinct o next (ending_next e))
    where
      by_joins : (b : Bool) (blocks : List NewBlock) (o : Option ℕ) → Distinct (scan_for_combining o next).results →
          Distinct (allocation_scanned b blocks i.results (scan_for_combining o next)).results
      by_joins false blocks o ih = no_regs
      by_joins true blocks o ih =
          distinct_append (distinct_of_pairs i.results (All-contains (λ (i : Instr). AreDistinct i.results) m.code i (is.formed).distinct (contains_of (stands_of e))))
          ih (λ n x y. apart_from o e y (left_among i.results _ x))

      none : {rs : List Reg} → rs ≡ [] → Distinct rs
      none e = subst Distinct (sym e) no_regs

      by : (f : MachOp) → ((o : Option ℕ) → Distinct (scan_for_combining o next).results) →
          Distinct (scanned_at held i f (scan_for_combining (open_past held f) next)).results
      by (mach.Op (op.Pure f)) ih = ih held
      by (mach.Op (op.Access (access.Load k offset))) ih = ih held
      by (mach.Op (op.Access (access.Store k offset))) ih = ih held
      by (mach.Op (op.Access (access.Alloc blocks))) ih =
          by_joins (joins held blocks) blocks (Some (bytes_past held blocks)) (ih (Some (bytes_past held blocks)))
      by (mach.Op (op.Calling f)) ih = none (nothing_goes next).1
      by (mach.Op (op.Leaving f)) ih = none (nothing_goes next).1
      by (mach.Mark f) ih = none (nothing_goes next).1

  -- a result for each block
  pub counted : (held : Option ℕ) (rest : List Instr) → Ending rest m.code →
      length (scan_for_combining held rest).results ≡ length (scan_for_combining held rest).blocks
  counted held [] e = refl
  counted held (i ∷ next) e = by i.op refl (λ o. counted o next (ending_next e))
    where
      by_joins : (b : Bool) (blocks : List NewBlock) → Allocates i blocks → (s : Scanned) → length s.results ≡ length s.blocks →
          length (allocation_scanned b blocks i.results s).results ≡ length (allocation_scanned b blocks i.results s).blocks
      by_joins false blocks a s ih = refl
      by_joins true blocks a s ih =
          let x = length-append i.results s.results in
          let y = length-append blocks s.blocks in
          let z = (allocation_at e blocks a).sized in
          omega (arith, x, y, z, ih)

      by : (f : MachOp) → i.op ≡ f → ((o : Option ℕ) → length (scan_for_combining o next).results ≡ length (scan_for_combining o next).blocks) →
          length (scanned_at held i f (scan_for_combining (open_past held f) next)).results
          ≡ length (scanned_at held i f (scan_for_combining (open_past held f) next)).blocks
      by (mach.Op (op.Pure f)) a ih = ih held
      by (mach.Op (op.Access (access.Load k offset))) a ih = ih held
      by (mach.Op (op.Access (access.Store k offset))) a ih = ih held
      by (mach.Op (op.Access (access.Alloc blocks))) a ih =
          by_joins (joins held blocks) blocks a (scan_for_combining (Some (bytes_past held blocks)) next) (ih (Some (bytes_past held blocks)))
      by (mach.Op (op.Calling f)) a ih = ih None
      by (mach.Op (op.Leaving f)) a ih = ih None
      by (mach.Mark f) a ih = ih None
