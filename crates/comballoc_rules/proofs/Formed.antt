-- The result is well-formed, and its operands and results are where the conventions put them.
use Rattle.std.proofs.Common.{◌≡◌, ◌≢◌, ℕ, zero, suc, ◌<◌, ◌≤◌, Bool, true, false, ◌⊎◌, inl, inr, List, [], ◌∷◌, ◌++◌, length, Option, Some, None, refl, sym, ap, ◌∙◌, subst, arith}
use Rattle.std.specs.List.{All, Contains}
use Rattle.std.specs.Prelude.{slice_index_or}
use Rattle.std.proofs.lemmas.Bool.{true≢false}
use Rattle.std.proofs.lemmas.List.{length-append}
use Rattle.std.proofs.lemmas.List.Elements.{Contains-get_or, All-contains, All-append}
use Rattle.bs_words.specs.declared.types.Comp.{Comp}
use Rattle.comballoc_rules.specs.Combined.{joins, bytes_past, open_past, Scanned, allocation, allocation_scanned, scanned_at, scan_for_combining, combined}
use Rattle.comballoc_rules.specs.Kept.{IsCombinable}
use Rattle.comballoc_rules.specs.Neighbours.{Allocates}
use Rattle.comballoc_rules.proofs.Awaited.{distinct_of_pairs, distinct_append, apart_from, distinct, counted}
use Rattle.comballoc_rules.proofs.Files.{Distinct, no_regs, one_more}
use Rattle.comballoc_rules.proofs.Largest.{Fits, what_goes}
use Rattle.comballoc_rules.proofs.Live.{label_is, handler_is}
use Rattle.comballoc_rules.proofs.Places.{merged, keeps_marks}
use Rattle.comballoc_rules.proofs.Registers.{Came, stays, opens, came}
use Rattle.comballoc_rules.proofs.Scan.{bytes_append}
use Rattle.comballoc_rules.proofs.Sizes.{register_before}
use Rattle.mach_ir.specs.Blocks.{total_block_bytes}
use Rattle.mach_ir.specs.Forms as form
use Rattle.mach_ir.specs.Forms.{HasForm, IsBlock, reservation_most}
use Rattle.mach_ir.specs.Formed.{IsFormedInstruction, formed_op, formed_mark, comps, AreDistinct, labels_of_mark, labels_in, LabelOccursIn, place_here, place_below, HasHandler, handler_here, handler_below, WellFormed}
use Rattle.mach_ir.specs.Meaning.{has_label, is_handler_of, after_label, from_handler, tries_at, tries_past}
use Rattle.mach_ir.specs.Placed.{is_straight}
use Rattle.mach_ir.specs.Seats.{Seated, AreSeated, anywhere, mach_operand_seats, mach_result_seats, places_of}
use Rattle.mach_ir.specs.Walks.{AmongRegisters, first, later, StandsAsInstr, here, below}
use Rattle.mach_ir.specs.declared.blocks.NewBlock.{NewBlock}
use Rattle.mach_ir.specs.declared.op.Access.TheVariants as access
use Rattle.mach_ir.specs.declared.op.Op.{Op}
use Rattle.mach_ir.specs.declared.op.Op.TheVariants as op
use Rattle.mach_ir.specs.declared.reg.Reg.{Reg}
use Rattle.mach_ir.specs.declared.mach.Mark.{Mark}
use Rattle.mach_ir.specs.declared.mach.MachOp.{MachOp}
use Rattle.mach_ir.specs.declared.mach.MachOp.TheVariants as mach
use Rattle.mach_ir.specs.declared.mach.Instr.{Instr}
use Rattle.mach_ir.specs.declared.mach.Mach.{Mach}
use Rattle.mach_laws.specs.Expand.{Ending}
use Rattle.mach_laws.proofs.Places.{ending_next, tries_expand, stands_of, ending_of, contains_of, stands_in}
use Rattle.mach_laws.proofs.Among.{left_among}
use Rattle.mach_laws.proofs.Instructions.{same_op, no_mark, length_comps}
use Rattle.pass_rules.proofs.Formed.{ComesFrom, is_new, stood, KeepsPlaces}
use Rattle.pass_rules.proofs.Formed as places

-- ---- labels, places, tries and marks

labels_scan : (held : Option ℕ) (is : List Instr) → labels_in (scan_for_combining held is).code ≡ labels_in is
labels_scan held [] = refl
labels_scan held (i ∷ is) = by i.op i.args i.results (λ o. labels_scan o is)
  where
    by_joins : (blocks : List NewBlock) (results : List Reg) (s : Scanned) → labels_in s.code ≡ labels_in is → (b : Bool) →
        labels_in (allocation_scanned b blocks results s).code ≡ labels_in is
    by_joins blocks results s e true = e
    by_joins blocks results s e false = e

    by : (f : MachOp) (args results : List Reg) → ((o : Option ℕ) → labels_in (scan_for_combining o is).code ≡ labels_in is) →
        labels_in (scanned_at held (record { op = f; args = args; results = results }) f (scan_for_combining (open_past held f) is)).code
        ≡ labels_in (record { op = f; args = args; results = results } ∷ is)
    by (mach.Op (op.Pure f)) args results ih = ih held
    by (mach.Op (op.Access (access.Load k offset))) args results ih = ih held
    by (mach.Op (op.Access (access.Store k offset))) args results ih = ih held
    by (mach.Op (op.Access (access.Alloc blocks))) args results ih =
        by_joins blocks results (scan_for_combining (Some (bytes_past held blocks)) is) (ih (Some (bytes_past held blocks))) (joins held blocks)
    by (mach.Op (op.Calling f)) args results ih = ih None
    by (mach.Op (op.Leaving f)) args results ih = ih None
    by (mach.Mark f) args results ih = ap (λ ls. labels_of_mark f ++ ls) (ih None)

pub tries_scan : (held : Option ℕ) (is : List Instr) → tries_at (scan_for_combining held is).code ≡ tries_at is
tries_scan held [] = refl
tries_scan held (i ∷ is) = by i.op refl (λ o. tries_scan o is)
  where
    by_joins : (blocks : List NewBlock) (s : Scanned) → tries_at s.code ≡ tries_at is → (b : Bool) →
        tries_at (allocation_scanned b blocks i.results s).code ≡ tries_at is
    by_joins blocks s e true = e
    by_joins blocks s e false = e

    by : (f : MachOp) → i.op ≡ f → ((o : Option ℕ) → tries_at (scan_for_combining o is).code ≡ tries_at is) →
        tries_at (scanned_at held i f (scan_for_combining (open_past held f) is)).code ≡ tries_past i.op (tries_at is)
    by (mach.Op (op.Pure f)) e ih = ap (tries_past i.op) (ih held)
    by (mach.Op (op.Access (access.Load k offset))) e ih = ap (tries_past i.op) (ih held)
    by (mach.Op (op.Access (access.Store k offset))) e ih = ap (tries_past i.op) (ih held)
    by (mach.Op (op.Access (access.Alloc blocks))) e ih =
        by_joins blocks (scan_for_combining (Some (bytes_past held blocks)) is) (ih (Some (bytes_past held blocks))) (joins held blocks)
        ∙ ap (λ g. tries_past g (tries_at is)) (sym e)
    by (mach.Op (op.Calling f)) e ih = ap (tries_past i.op) (ih None)
    by (mach.Op (op.Leaving f)) e ih = ap (tries_past i.op) (ih None)
    by (mach.Mark f) e ih = ap (tries_past i.op) (ih None)

-- a mark is none of the other operations
below_op : {j i : Instr} {next is : List Instr} (f : Op) → i.op ≡ mach.Op f → (k : Mark) → j.op ≡ mach.Mark k →
    StandsAsInstr j next (i ∷ is) → StandsAsInstr j next is
below_op f g k e here = absurd (no_mark f k (sym g ∙ e))
  where
    no_mark : (f : Op) (k : Mark) → mach.Op f ≡ mach.Mark k → ⊥
    no_mark f k e = cc
below_op f g k e (below z) = z

at_mark : {j i : Instr} {next is : List Instr} → StandsAsInstr j next (i ∷ is) →
    (StandsAsInstr j next is → (o : Option ℕ) × StandsAsInstr j (scan_for_combining o next).code (scan_for_combining None is).code) →
    (o : Option ℕ) × StandsAsInstr j (scan_for_combining o next).code (i ∷ (scan_for_combining None is).code)
at_mark here ih = (None, here)
at_mark (below z) ih = let h = ih z in (h.0, below h.1)

-- a mark stays
mark_there : (held : Option ℕ) (is : List Instr) (j : Instr) (next : List Instr) (k : Mark) → j.op ≡ mach.Mark k → StandsAsInstr j next is →
    (o : Option ℕ) × StandsAsInstr j (scan_for_combining o next).code (scan_for_combining held is).code
mark_there held [] j next k e s = elim s [ ]
mark_there held (i ∷ is) j next k e s = by i.op refl s (λ o z. mark_there o is j next k e z)
  where
    below_it : (f : Op) → i.op ≡ mach.Op f → StandsAsInstr j next (i ∷ is) → StandsAsInstr j next is
    below_it f g s = below_op f g k e s

    lifted : {zs : List Instr} → (o : Option ℕ) × StandsAsInstr j (scan_for_combining o next).code zs → (o : Option ℕ) × StandsAsInstr j (scan_for_combining o next).code (i ∷ zs)
    lifted h = (h.0, below h.1)

    by_joins : (blocks : List NewBlock) (s : Scanned) → (o : Option ℕ) × StandsAsInstr j (scan_for_combining o next).code s.code → (b : Bool) →
        (o : Option ℕ) × StandsAsInstr j (scan_for_combining o next).code (allocation_scanned b blocks i.results s).code
    by_joins blocks s h true = h
    by_joins blocks s h false = (h.0, below h.1)

    by : (f : MachOp) → i.op ≡ f → StandsAsInstr j next (i ∷ is) → ((o : Option ℕ) → StandsAsInstr j next is → (u : Option ℕ) × StandsAsInstr j (scan_for_combining u next).code (scan_for_combining o is).code) →
        (o : Option ℕ) × StandsAsInstr j (scan_for_combining o next).code (scanned_at held i f (scan_for_combining (open_past held f) is)).code
    by (mach.Op (op.Pure f)) g s ih = lifted (ih held (below_it (op.Pure f) g s))
    by (mach.Op (op.Access (access.Load a offset))) g s ih = lifted (ih held (below_it (op.Access (access.Load a offset)) g s))
    by (mach.Op (op.Access (access.Store a offset))) g s ih = lifted (ih held (below_it (op.Access (access.Store a offset)) g s))
    by (mach.Op (op.Access (access.Alloc blocks))) g s ih =
        by_joins blocks (scan_for_combining (Some (bytes_past held blocks)) is)
        (ih (Some (bytes_past held blocks)) (below_it (op.Access (access.Alloc blocks)) g s)) (joins held blocks)
    by (mach.Op (op.Calling f)) g s ih = lifted (ih None (below_it (op.Calling f) g s))
    by (mach.Op (op.Leaving f)) g s ih = lifted (ih None (below_it (op.Leaving f) g s))
    by (mach.Mark f) g s ih = at_mark s (λ z. ih None z)

marked : (l : ℕ) (f : MachOp) → has_label l f ≡ true → (k : Mark) × (f ≡ mach.Mark k)
marked l (mach.Op f) e = absurd (true≢false (sym e))
marked l (mach.Mark k) e = (k, refl)

handling : (l : ℕ) (f : MachOp) → is_handler_of l f ≡ true → (k : Mark) × (f ≡ mach.Mark k)
handling l (mach.Op f) e = absurd (true≢false (sym e))
handling l (mach.Mark k) e = (k, refl)

place_at : {l : ℕ} {j : Instr} {next code : List Instr} → has_label l j.op ≡ true → StandsAsInstr j next code → LabelOccursIn l code
place_at e here = place_here e
place_at e (below s) = place_below (place_at e s)

handler_at : {l : ℕ} {j : Instr} {next code : List Instr} → is_handler_of l j.op ≡ true → StandsAsInstr j next code → HasHandler l code
handler_at e here = handler_here e
handler_at e (below s) = handler_below (handler_at e s)

where_place : {l : ℕ} {code : List Instr} → LabelOccursIn l code → (j : Instr) × (next : List Instr) × StandsAsInstr j next code × (has_label l j.op ≡ true)
where_place (place_here {i = i} {is = is} e) = (i, is, here, e)
where_place (place_below h) = let w = where_place h in (w.0, w.1, below w.2, w.3)

where_handler : {l : ℕ} {code : List Instr} → HasHandler l code → (j : Instr) × (next : List Instr) × StandsAsInstr j next code × (is_handler_of l j.op ≡ true)
where_handler (handler_here {i = i} {is = is} e) = (i, is, here, e)
where_handler (handler_below h) = let w = where_handler h in (w.0, w.1, below w.2, w.3)

place_there : {l : ℕ} (held : Option ℕ) (code : List Instr) → LabelOccursIn l code → LabelOccursIn l (scan_for_combining held code).code
place_there {l} held code h =
    let w = where_place h in
    let k = marked l (w.0).op w.3 in
    place_at w.3 (mark_there held code w.0 w.1 k.0 k.1 w.2).1

handler_there : {l : ℕ} (held : Option ℕ) (code : List Instr) → HasHandler l code → HasHandler l (scan_for_combining held code).code
handler_there {l} held code h =
    let w = where_handler h in
    let k = handling l (w.0).op w.3 in
    handler_at w.3 (mark_there held code w.0 w.1 k.0 k.1 w.2).1

-- ---- lists

among_at : (rs : List Reg) (k : ℕ) (d : Reg) → k < length rs → AmongRegisters (slice_index_or rs k d).number rs
among_at [] k d lt = absurd (omega (arith, lt))
among_at (r ∷ rs) zero d lt = first refl
among_at (r ∷ rs) (suc k) d lt = later (among_at rs k d (omega (arith, lt)))

pairs_of_distinct : {rs : List Reg} → Distinct rs → AreDistinct rs
pairs_of_distinct no_regs = λ i j d lt within. absurd (omega (arith, within))
pairs_of_distinct (one_more {r = r} {rs = rs} free h) = λ i j d lt within. by (pairs_of_distinct h) i j d lt within
  where
    moved : (n k : ℕ) → r.number ≡ k → AmongRegisters k rs → AmongRegisters r.number rs
    moved n k e a = subst (λ k. AmongRegisters k rs) (sym e) a

    by : AreDistinct rs → (i j : ℕ) (d : Reg) → i < j → j < length (r ∷ rs) →
        (slice_index_or (r ∷ rs) i d).number ≢ (slice_index_or (r ∷ rs) j d).number
    by ih i zero d lt within = absurd (omega (arith, lt))
    by ih zero (suc j) d lt within = λ e. free (moved 0 (slice_index_or rs j d).number e (among_at rs j d (omega (arith, within))))
    by ih (suc i) (suc j) d lt within = ih i j d (omega (arith, lt)) (omega (arith, within))

-- ---- allocations

-- what an allocation that is formed has
record Sound (blocks : List NewBlock) (count : ℕ) : Type 0 where
  some : blocks ≢ []
  each : All IsBlock blocks
  few : total_block_bytes blocks ≤ reservation_most
  sized : count ≡ length blocks

sound_form : (blocks : List NewBlock) (ts ds : List Comp) → HasForm (op.Access (access.Alloc blocks)) ts ds → Sound blocks (length ds)
sound_form blocks ts ds (form.allocates n a le e) = record { some = n; each = a; few = le; sized = e }

sound : {i : Instr} → IsFormedInstruction i → (blocks : List NewBlock) → Allocates i blocks → Sound blocks (length i.results)
sound (formed_op {f = f} {args = args} {results = results} h) blocks e =
    subst (Sound blocks) (length_comps results)
    (sound_form blocks (comps args) (comps results)
    (subst (λ g. HasForm g (comps args) (comps results)) (same_op f (op.Access (access.Alloc blocks)) e) h))
sound (formed_mark {f = f} h) blocks e = absurd (no_mark f (op.Access (access.Alloc blocks)) e)

not_empty : (xs ys : List NewBlock) → xs ≢ [] → xs ++ ys ≢ []
not_empty [] ys n = λ e. n refl
not_empty (x ∷ xs) ys n = λ e. none x (xs ++ ys) e
  where
    none : (x : NewBlock) (zs : List NewBlock) → x ∷ zs ≡ [] → ⊥
    none x zs e = cc

module _ (m : Mach) (is : IsCombinable m) where
  abbrev q : Mach
  q = combined m

  abbrev formed : WellFormed m
  formed = is.formed

  sound_at : {i : Instr} {next : List Instr} → Ending (i ∷ next) m.code → (blocks : List NewBlock) → Allocates i blocks →
      Sound blocks (length i.results)
  sound_at {i} e blocks a = sound (All-contains IsFormedInstruction m.code i formed.instrs (contains_of (stands_of e))) blocks a

  blocks_scan : (held : Option ℕ) (rest : List Instr) → Ending rest m.code → All IsBlock (scan_for_combining held rest).blocks
  blocks_scan held [] e = λ k d lt. absurd (omega (arith, lt))
  blocks_scan held (i ∷ next) e = by i.op refl (λ o. blocks_scan o next (ending_next e))
    where
      nothing : All IsBlock []
      nothing = λ k d lt. absurd (omega (arith, lt))

      by_joins : (blocks : List NewBlock) → Allocates i blocks → (s : Scanned) → All IsBlock s.blocks → (b : Bool) →
          All IsBlock (allocation_scanned b blocks i.results s).blocks
      by_joins blocks a s h true = All-append IsBlock blocks s.blocks (sound_at e blocks a).each h
      by_joins blocks a s h false = nothing

      by : (f : MachOp) → i.op ≡ f → ((o : Option ℕ) → All IsBlock (scan_for_combining o next).blocks) →
          All IsBlock (scanned_at held i f (scan_for_combining (open_past held f) next)).blocks
      by (mach.Op (op.Pure f)) a ih = ih held
      by (mach.Op (op.Access (access.Load k offset))) a ih = ih held
      by (mach.Op (op.Access (access.Store k offset))) a ih = ih held
      by (mach.Op (op.Access (access.Alloc blocks))) a ih =
          by_joins blocks a (scan_for_combining (Some (bytes_past held blocks)) next) (ih (Some (bytes_past held blocks))) (joins held blocks)
      by (mach.Op (op.Calling f)) a ih = ih None
      by (mach.Op (op.Leaving f)) a ih = ih None
      by (mach.Mark f) a ih = ih None

  opened_formed : (i : Instr) (next : List Instr) (blocks : List NewBlock) → StandsAsInstr i next m.code → Allocates i blocks →
      IsFormedInstruction (allocation (blocks ++ (scan_for_combining (Some (total_block_bytes blocks)) next).blocks) (i.results ++ (scan_for_combining (Some (total_block_bytes blocks)) next).results))
  opened_formed i next blocks s a =
      formed_op
      (form.allocates (not_empty blocks (scan_for_combining (Some (total_block_bytes blocks)) next).blocks (sound_at e blocks a).some)
      (All-append IsBlock blocks (scan_for_combining (Some (total_block_bytes blocks)) next).blocks (sound_at e blocks a).each (blocks_scan (Some (total_block_bytes blocks)) next (ending_next e)))
      (fits (what_goes (total_block_bytes blocks) next)) counts)
    where
      e : Ending (i ∷ next) m.code
      e = ending_of s

      fits : Fits (total_block_bytes blocks) (scan_for_combining (Some (total_block_bytes blocks)) next).blocks →
          total_block_bytes (blocks ++ (scan_for_combining (Some (total_block_bytes blocks)) next).blocks) ≤ reservation_most
      fits (inl none) =
          let le = (sound_at (ending_of s) blocks a).few in
          let g = bytes_append blocks (scan_for_combining (Some (total_block_bytes blocks)) next).blocks in
          let z = ap total_block_bytes none in
          omega (arith, le, g, z)
      fits (inr le) =
          let g = bytes_append blocks (scan_for_combining (Some (total_block_bytes blocks)) next).blocks in omega (arith, le, g)

      counts : length (comps (i.results ++ (scan_for_combining (Some (total_block_bytes blocks)) next).results)) ≡ length (blocks ++ (scan_for_combining (Some (total_block_bytes blocks)) next).blocks)
      counts =
          let a0 = length_comps (i.results ++ (scan_for_combining (Some (total_block_bytes blocks)) next).results) in
          let a1 = length-append i.results (scan_for_combining (Some (total_block_bytes blocks)) next).results in
          let a2 = length-append blocks (scan_for_combining (Some (total_block_bytes blocks)) next).blocks in
          let a3 = (sound_at (ending_of s) blocks a).sized in
          let a4 = counted m is (Some (total_block_bytes blocks)) next (ending_next (ending_of s)) in
          omega (arith, a0, a1, a2, a3, a4)

  opened_distinct : (i : Instr) (next : List Instr) (blocks : List NewBlock) → StandsAsInstr i next m.code → Allocates i blocks →
      AreDistinct (i.results ++ (scan_for_combining (Some (total_block_bytes blocks)) next).results)
  opened_distinct i next blocks s a =
      let e = ending_of s in
      pairs_of_distinct
      (distinct_append
      (distinct_of_pairs i.results (All-contains (λ (i : Instr). AreDistinct i.results) m.code i formed.distinct (contains_of s)))
      (distinct m is (Some (total_block_bytes blocks)) next (ending_next e))
      (λ n x y. apart_from m is (Some (total_block_bytes blocks)) e y (left_among i.results _ x)))

  -- what holds of each instruction of the function, and of each allocation with what goes to it
  each_in : (P : Instr → Type 0) → ((i : Instr) → Contains m.code i → P i) →
      ((i : Instr) (next : List Instr) (blocks : List NewBlock) → StandsAsInstr i next m.code → Allocates i blocks →
      P (allocation (blocks ++ (scan_for_combining (Some (total_block_bytes blocks)) next).blocks) (i.results ++ (scan_for_combining (Some (total_block_bytes blocks)) next).results))) →
      All P q.code
  each_in P mains allocs = λ k d lt.
      let j = slice_index_or q.code k d in
      let s = stands_in q.code j (Contains-get_or q.code k d lt) in by j s.0 (came None m.code j s.0 s.1)
    where
      by : (j : Instr) (ys : List Instr) → Came m.code j ys → P j
      by j ys (stays h s n e) = mains j (contains_of s)
      by j ys (opens i {next = next} blocks s a same t) = subst P (sym same) (allocs i next blocks s a)

  pub instrs : All IsFormedInstruction q.code
  instrs = each_in IsFormedInstruction (λ i c. All-contains IsFormedInstruction m.code i formed.instrs c) opened_formed

  pub results_distinct : All (λ (i : Instr). AreDistinct i.results) q.code
  results_distinct =
      each_in (λ (i : Instr). AreDistinct i.results)
      (λ i c. All-contains (λ (i : Instr). AreDistinct i.results) m.code i formed.distinct c) opened_distinct

  -- ---- where an instruction was

  keeps_places : KeepsPlaces m q.code
  keeps_places =
      record {
        whence = λ j ys s. comes j ys (came None m.code j ys s);
        among = λ j c. let s = stands_in q.code j c in among_or_new j s.0 (came None m.code j s.0 s.1);
        marks = λ j k e c. let s = stands_in m.code j c in contains_of (mark_there None m.code j s.0 k e s.1).1;
        places = λ l p. place_there None m.code p;
        labels = labels_scan None m.code;
        tries = tries_scan None m.code;
        label_tries = λ l. ap tries_at (label_is m l) ∙ tries_expand (merged m.code) (keeps_marks m.code) (after_label l m.code);
        handler_tries = λ l.
            ap tries_at (handler_is m l) ∙ tries_expand (merged m.code) (keeps_marks m.code) (from_handler l m.code);
        registers = register_before m;
      }
    where
      comes : (j : Instr) (ys : List Instr) → Came m.code j ys → ComesFrom m q.code j ys
      comes j ys (stays {next = next} h s n e) =
          stood s (ap tries_at e ∙ tries_scan h next) (λ l p. subst (LabelOccursIn l) (sym e) (place_there h next p))
          (λ l p. subst (HasHandler l) (sym e) (handler_there h next p))
      comes j ys (opens i blocks s a same t) = is_new (ap (λ (k : Instr). is_straight k.op) same)

      among_or_new : (j : Instr) (ys : List Instr) → Came m.code j ys → (is_straight j.op ≡ true) ⊎ Contains m.code j
      among_or_new j ys (stays h s n e) = inr (contains_of s)
      among_or_new j ys (opens i blocks s a same t) = inl (ap (λ (k : Instr). is_straight k.op) same)

  -- The result is well-formed.
  pub combined_formed : WellFormed (combined m)
  combined_formed = places.still_formed m q.code formed keeps_places instrs results_distinct

-- ---- places by the conventions

pub combined_seated : (m : Mach) → Seated m → Seated (combined m)
combined_seated m h =
    record {
      params = h.params;
      operands = λ j c.
          let s = stands_in (combined m).code j c in operands_of j s.0 (came None m.code j s.0 s.1);
      results = λ j c.
          let s = stands_in (combined m).code j c in results_of j s.0 (came None m.code j s.0 s.1);
    }
  where
    operands_of : (j : Instr) (ys : List Instr) → Came m.code j ys → AreSeated (mach_operand_seats j.op) (places_of j.args)
    operands_of j ys (stays o s n e) = h.operands j (contains_of s)
    operands_of j ys (opens i blocks s a same t) =
        subst (λ (k : Instr). AreSeated (mach_operand_seats k.op) (places_of k.args)) (sym same) anywhere

    results_of : (j : Instr) (ys : List Instr) → Came m.code j ys → AreSeated (mach_result_seats j.op) (places_of j.results)
    results_of j ys (stays o s n e) = h.results j (contains_of s)
    results_of j ys (opens i blocks s a same t) =
        subst (λ (k : Instr). AreSeated (mach_result_seats k.op) (places_of k.results)) (sym same) anywhere
