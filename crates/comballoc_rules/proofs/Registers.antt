-- Instructions and registers of the result, by those of the function.
use Rattle.std.proofs.Common.{◌≡◌, ℕ, ◌+◌, Bool, true, false, cond, ⊎_elim, List, [], ◌∷◌, ◌++◌, Option, Some, None, refl, sym, ap, ◌∙◌, subst}
use Rattle.std.specs.List.{Contains}
use Rattle.std.proofs.lemmas.List.Elements.{Contains-append_cases}
use Rattle.bs_words.proofs.Lists.{none_in}
use Rattle.comballoc_rules.specs.Combined.{joins, bytes_past, open_past, Scanned, allocation, allocation_scanned, scanned_at, scan_for_combining}
use Rattle.comballoc_rules.proofs.Scan.{nothing_goes}
use Rattle.mach_ir.specs.Blocks.{total_block_bytes}
use Rattle.mach_ir.specs.Placed.{is_straight}
use Rattle.mach_ir.specs.Walks.{StandsAsInstr, here, below, InCode, in_results, further}
use Rattle.mach_ir.specs.declared.blocks.NewBlock.{NewBlock}
use Rattle.mach_ir.specs.declared.op.Access.TheVariants as access
use Rattle.mach_ir.specs.declared.op.Op.TheVariants as op
use Rattle.mach_ir.specs.declared.reg.Reg.{Reg}
use Rattle.mach_ir.specs.declared.mach.MachOp.{MachOp}
use Rattle.mach_ir.specs.declared.mach.MachOp.TheVariants as mach
use Rattle.mach_ir.specs.declared.mach.Instr.{Instr}

-- ---- what goes to the open allocation

-- the straight run here has an allocation that writes this register
pub data Awaits (r : Reg) : List Instr → Type 0 where
  awaits_here : {i : Instr} {is : List Instr} (blocks : List NewBlock) → i.op ≡ mach.Op (op.Access (access.Alloc blocks)) →
      Contains i.results r → Awaits r (i ∷ is)
  awaits_on : {i : Instr} {is : List Instr} → is_straight i.op ≡ true → Awaits r is → Awaits r (i ∷ is)

not_here : {A : Type 0} (r : Reg) (rs : List Reg) → rs ≡ [] → Contains rs r → A
not_here r rs e c = absurd (none_in r (subst (λ rs. Contains rs r) e c))

pub awaited : (held : Option ℕ) (is : List Instr) (r : Reg) → Contains (scan_for_combining held is).results r → Awaits r is
awaited held [] r c = absurd (none_in r c)
awaited held (i ∷ is) r c = by i.op refl (λ o. awaited o is r) c
  where
    by_joins : (blocks : List NewBlock) → i.op ≡ mach.Op (op.Access (access.Alloc blocks)) → (b : Bool) (after : Scanned) →
        (Contains after.results r → Awaits r is) → Contains (allocation_scanned b blocks i.results after).results r → Awaits r (i ∷ is)
    by_joins blocks e false after ih d = absurd (none_in r d)
    by_joins blocks e true after ih d =
        ⊎_elim (λ z. awaits_here blocks e z) (λ z. awaits_on (ap is_straight e) (ih z))
        (Contains-append_cases i.results after.results r d)

    by : (f : MachOp) → i.op ≡ f → ((o : Option ℕ) → Contains (scan_for_combining o is).results r → Awaits r is) →
        Contains (scanned_at held i f (scan_for_combining (open_past held f) is)).results r → Awaits r (i ∷ is)
    by (mach.Op (op.Pure f)) e ih d = awaits_on (ap is_straight e) (ih held d)
    by (mach.Op (op.Access (access.Load k offset))) e ih d = awaits_on (ap is_straight e) (ih held d)
    by (mach.Op (op.Access (access.Store k offset))) e ih d = awaits_on (ap is_straight e) (ih held d)
    by (mach.Op (op.Access (access.Alloc blocks))) e ih d =
        by_joins blocks e (joins held blocks) (scan_for_combining (Some (bytes_past held blocks)) is) (ih (Some (bytes_past held blocks))) d
    by (mach.Op (op.Calling f)) e ih d = not_here r (scan_for_combining None is).results (nothing_goes is).1 d
    by (mach.Op (op.Leaving f)) e ih d = not_here r (scan_for_combining None is).results (nothing_goes is).1 d
    by (mach.Mark f) e ih d = not_here r (scan_for_combining None is).results (nothing_goes is).1 d

pub awaits_in : {r : Reg} {is : List Instr} → Awaits r is → InCode r is
awaits_in (awaits_here blocks e c) = in_results c
awaits_in (awaits_on s a) = further (awaits_in a)

-- ---- instructions of the result

-- An instruction of the result, with what comes after it: one of the function, or an allocation with what goes to it. What
-- comes after is what a scan makes of what came after.
pub data Came (code : List Instr) (j : Instr) (ys : List Instr) : Type 0 where
  stays : {next : List Instr} (held : Option ℕ) → StandsAsInstr j next code →
      ((blocks : List NewBlock) → j.op ≡ mach.Op (op.Access (access.Alloc blocks)) → ⊥) →
      ys ≡ (scan_for_combining held next).code → Came code j ys
  opens : (i : Instr) {next : List Instr} (blocks : List NewBlock) → StandsAsInstr i next code →
      i.op ≡ mach.Op (op.Access (access.Alloc blocks)) →
      j ≡ allocation (blocks ++ (scan_for_combining (Some (bytes_past None blocks)) next).blocks)
      (i.results ++ (scan_for_combining (Some (bytes_past None blocks)) next).results) →
      ys ≡ (scan_for_combining (Some (bytes_past None blocks)) next).code → Came code j ys

came_below : {code : List Instr} {j : Instr} {ys : List Instr} (i : Instr) → Came code j ys → Came (i ∷ code) j ys
came_below i (stays held s n e) = stays held (below s) n e
came_below i (opens k blocks s e g h) = opens k blocks (below s) e g h

not_joined : (held : Option ℕ) (blocks : List NewBlock) → joins held blocks ≡ false → bytes_past held blocks ≡ bytes_past None blocks
not_joined None blocks e = refl
not_joined (Some bytes) blocks e = ap (λ b. cond b (bytes + total_block_bytes blocks) (total_block_bytes blocks)) e

pub came : (held : Option ℕ) (code : List Instr) (j : Instr) (ys : List Instr) → StandsAsInstr j ys (scan_for_combining held code).code → Came code j ys
came held [] j ys s = elim s [ ]
came held (i ∷ is) j ys s = by i.op refl (λ o z. came_below i (came o is j ys z)) s
  where
    no_alloc : (f : MachOp) → i.op ≡ f → ((blocks : List NewBlock) → f ≡ mach.Op (op.Access (access.Alloc blocks)) → ⊥) →
        (blocks : List NewBlock) → i.op ≡ mach.Op (op.Access (access.Alloc blocks)) → ⊥
    no_alloc f e n blocks g = n blocks (sym e ∙ g)

    kept : (o : Option ℕ) → ((blocks : List NewBlock) → i.op ≡ mach.Op (op.Access (access.Alloc blocks)) → ⊥) →
        (zs : List Instr) → zs ≡ (scan_for_combining o is).code →
        (StandsAsInstr j ys zs → Came (i ∷ is) j ys) → (k : Instr) → k ≡ i → StandsAsInstr j ys (k ∷ zs) → Came (i ∷ is) j ys
    kept o n zs g ih k e here = subst (λ (k : Instr). Came (i ∷ is) k zs) (sym e) (stays o here n g)
    kept o n zs g ih k e (below z) = ih z

    opened : (blocks : List NewBlock) → i.op ≡ mach.Op (op.Access (access.Alloc blocks)) → (after : Scanned) →
        after ≡ scan_for_combining (Some (bytes_past None blocks)) is → (StandsAsInstr j ys after.code → Came (i ∷ is) j ys) →
        (k : Instr) (zs : List Instr) → k ≡ allocation (blocks ++ after.blocks) (i.results ++ after.results) → zs ≡ after.code →
        StandsAsInstr j ys (k ∷ zs) → Came (i ∷ is) j ys
    opened blocks e after g ih k zs same tail here =
        opens i blocks here e
        (same ∙ ap (λ (a : Scanned). allocation (blocks ++ a.blocks) (i.results ++ a.results)) g)
        (tail ∙ ap (λ (a : Scanned). a.code) g)
    opened blocks e after g ih k zs same tail (below z) = ih (subst (StandsAsInstr j ys) tail z)

    by_joins : (blocks : List NewBlock) → i.op ≡ mach.Op (op.Access (access.Alloc blocks)) → (b : Bool) → joins held blocks ≡ b →
        ((o : Option ℕ) → StandsAsInstr j ys (scan_for_combining o is).code → Came (i ∷ is) j ys) →
        StandsAsInstr j ys (allocation_scanned b blocks i.results (scan_for_combining (Some (bytes_past held blocks)) is)).code → Came (i ∷ is) j ys
    by_joins blocks e true g ih z = ih (Some (bytes_past held blocks)) z
    by_joins blocks e false g ih z =
        opened blocks e (scan_for_combining (Some (bytes_past held blocks)) is)
        (ap (λ n. scan_for_combining (Some n) is) (not_joined held blocks g)) (ih (Some (bytes_past held blocks))) _ _ refl refl z

    by : (f : MachOp) → i.op ≡ f → ((o : Option ℕ) → StandsAsInstr j ys (scan_for_combining o is).code → Came (i ∷ is) j ys) →
        StandsAsInstr j ys (scanned_at held i f (scan_for_combining (open_past held f) is)).code → Came (i ∷ is) j ys
    by (mach.Op (op.Pure f)) e ih z = kept held (no_alloc _ e (λ bs g. is_no g)) _ refl (ih held) i refl z
      where
        is_no : {f : _} {bs : List NewBlock} → mach.Op (op.Pure f) ≡ mach.Op (op.Access (access.Alloc bs)) → ⊥
        is_no g = cc
    by (mach.Op (op.Access (access.Load k offset))) e ih z = kept held (no_alloc _ e (λ bs g. is_no g)) _ refl (ih held) i refl z
      where
        is_no : {bs : List NewBlock} → mach.Op (op.Access (access.Load k offset)) ≡ mach.Op (op.Access (access.Alloc bs)) → ⊥
        is_no g = cc
    by (mach.Op (op.Access (access.Store k offset))) e ih z = kept held (no_alloc _ e (λ bs g. is_no g)) _ refl (ih held) i refl z
      where
        is_no : {bs : List NewBlock} → mach.Op (op.Access (access.Store k offset)) ≡ mach.Op (op.Access (access.Alloc bs)) → ⊥
        is_no g = cc
    by (mach.Op (op.Access (access.Alloc blocks))) e ih z = by_joins blocks e (joins held blocks) refl ih z
    by (mach.Op (op.Calling f)) e ih z = kept None (no_alloc _ e (λ bs g. is_no g)) _ refl (ih None) i refl z
      where
        is_no : {bs : List NewBlock} → mach.Op (op.Calling f) ≡ mach.Op (op.Access (access.Alloc bs)) → ⊥
        is_no g = cc
    by (mach.Op (op.Leaving f)) e ih z = kept None (no_alloc _ e (λ bs g. is_no g)) _ refl (ih None) i refl z
      where
        is_no : {bs : List NewBlock} → mach.Op (op.Leaving f) ≡ mach.Op (op.Access (access.Alloc bs)) → ⊥
        is_no g = cc
    by (mach.Mark f) e ih z = kept None (no_alloc _ e (λ bs g. is_no g)) _ refl (ih None) i refl z
      where
        is_no : {bs : List NewBlock} → mach.Mark f ≡ mach.Op (op.Access (access.Alloc bs)) → ⊥
        is_no g = cc
