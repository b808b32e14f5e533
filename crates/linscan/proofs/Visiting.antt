-- What is seen at the places of a function.
use Rattle.std.proofs.Common.{◌≡◌, ℕ, zero, suc, ◌+◌, ◌<◌, ◌≤◌, true, ◌⊎◌, inl, inr, ⊎_elim, Bool, List, [], ◌∷◌, None, length, map, drop, get_or, refl, sym, ap, ◌∙◌, subst, arith}
use Rattle.std.specs.List.{All, Contains}
use Rattle.std.proofs.Math.Seq.{drop-cons}
use Rattle.std.proofs.lemmas.Bool.{cases_lt}
use Rattle.std.proofs.lemmas.List.{get_or-map}
use Rattle.std.proofs.lemmas.List.Elements.{Contains-get_or, Contains-append_cases}
use Rattle.bs_bits.specs.Set.{has}
use Rattle.bs_words.specs.Contents.{contents}
use Rattle.dataflow.specs.Flow.{IsPlace, IsFlowFormed}
use Rattle.dataflow.specs.Rows.{set_in_row}
use Rattle.dataflow.specs.declared.flow.Flow as flow
use Rattle.dataflow.specs.declared.flow.Place as place
use Rattle.mach_ir.specs.Graph.{IsLiveMap}
use Rattle.mach_ir.specs.Meaning.{code_at, killed, registers_written}
use Rattle.mach_ir.specs.Walks.{AmongRegisters, targets, goes, raises, Writes, Live, read, on, aside, LiveAfter, after_step, InCode, in_args, in_results, further, IsRegister, is_param, is_colour, is_in_code}
use Rattle.mach_ir.specs.declared.graph.LiveMap.{LiveMap}
use Rattle.mach_ir.specs.declared.reg.Reg.{Reg}
use Rattle.mach_ir.specs.declared.mach.Instr.{Instr}
use Rattle.mach_ir.specs.declared.mach.Mach.{Mach}
use Rattle.mach_laws.specs.Expand.{Ending, all, more}
use Rattle.mach_laws.specs.Graph.{code_index, numbers_of_registers, numbers_read, numbers_written, next_places, IsFlowOf}
use Rattle.mach_laws.proofs.Places.{ending_from_handler}
use Rattle.mach_laws.proofs.Among.{number_among}
use Rattle.mach_laws.proofs.Walking.{among_numbers, in_numbers, place_is, ending_at, ending_drop, ending_place, target_of, in_targets}
use Rattle.liveness.proofs.Bounds.{killed_is_colour}
use Rattle.linscan_rules.specs.Ranges.{IsAtPlace, at_entry, reads, writes, before, after}
use Rattle.linscan.specs.Listed.{AreRangesOf}
use Rattle.linscan.specs.Seen.{RangeTable, range_at, IsWithin, IsEnd, begins, ends, Widens, AreSights, IsSeen, is_read, is_written, is_live, is_live_after}

-- ---- the node of an instruction

pub record IsNodeAt (m : Mach) (f : flow.Flow) (p : ℕ) (i : Instr) (node : place.Place) : Type 0 where
  pub at : drop p m.code ≡ i ∷ drop (suc p) m.code
  pub next : contents node.next ≡ next_places m (i ∷ drop (suc p) m.code)
  pub reads : contents node.reads ≡ numbers_of_registers i.args
  pub writes : contents node.writes ≡ numbers_of_registers (registers_written m i)
  pub formed : IsPlace (length (contents f.places)) f.bound node

-- some instruction is at each place of the text
pub instr_at : (code : List Instr) (p : ℕ) → p < length code → (i : Instr) × (drop p code ≡ i ∷ drop (suc p) code)
instr_at [] p lt = absurd (omega (arith, lt))
instr_at (i ∷ is) p lt =
    let d : Instr = i in
    (get_or (i ∷ is) p d, drop-cons (i ∷ is) p d lt)

pub node_at_place : (m : Mach) (f : flow.Flow) (p : ℕ) (node : place.Place) → IsFlowOf m f → IsFlowFormed f →
    p < length m.code → node ≡ get_or (contents f.places) p node → (i : Instr) × IsNodeAt m f p i node
node_at_place m f p node is formed lt there =
    let w = instr_at m.code p lt in (
      w.0,
      record {
        at = w.1;
        next = of_node (λ x. contents x.next) ∙ is.next p ∙ ap (next_places m) w.1;
        reads = of_node (λ x. contents x.reads) ∙ is.reads p ∙ ap numbers_read w.1;
        writes = of_node (λ x. contents x.writes) ∙ is.writes p ∙ ap (numbers_written m) w.1;
        formed = subst (IsPlace (length (contents f.places)) f.bound) (sym there) (formed p node within);
      },
    )
  where
    within : p < length (contents f.places)
    within = let count = is.places in omega (arith, count, lt)

    of_node : (part : place.Place → List ℕ) → part node ≡ get_or (map part (contents f.places)) p []
    of_node part = sym (get_or-map part (contents f.places) p node [] within ∙ ap part (sym there))

in_ending : {rest code : List Instr} {r : Reg} → Ending rest code → InCode r rest → InCode r code
in_ending all c = c
in_ending (more e) c = further (in_ending e c)

module _ (m : Mach) where
  -- ---- numbers of registers

  module _ (bound len : ℕ) (above : (r : Reg) → IsRegister m r → r.number < bound) (same : len ≡ bound) where
    among_below : {n : ℕ} {rs : List Reg} → ((r : Reg) → Contains rs r → IsRegister m r) → AmongRegisters n rs → n < len
    among_below {n} {rs} are a =
        let r = number_among rs a in
        subst (λ b. n < b) (sym same) (subst (λ n. n < bound) r.2 (above r.0 (are r.0 r.1)))

    all_below : (rs : List Reg) (numbers : List ℕ) → numbers ≡ numbers_of_registers rs → ((r : Reg) → Contains rs r → IsRegister m r) →
        All (λ n. n < len) numbers
    all_below rs numbers e are = λ j d lt.
        among_below are
        (among_numbers (get_or numbers j d) rs (subst (λ ns. Contains ns (get_or numbers j d)) e (Contains-get_or numbers j d lt)))

    live_register : {n : ℕ} {rest : List Instr} → Live m n rest → Ending rest m.code → n < len
    live_register (read a) e = among_below (λ r c. is_in_code (in_ending e (in_args c))) a
    live_register (on w (goes t o) l) e = live_register l (ending_at t e)
    live_register (aside (raises {l = l} b t) live) e = live_register live (ending_from_handler l m.code)

    -- what is live anywhere is a register of the function
    pub live_below : (live : LiveMap) → IsLiveMap m live → (p k : ℕ) → has (set_in_row live.before.rows.items p) k ≡ true → k < len
    live_below live is p k h = live_register ((is.exact p k).0 h) (ending_drop p m.code)

    pub params_below : (numbers params : List ℕ) → params ≡ numbers → numbers ≡ numbers_of_registers m.params → All (λ n. n < len) params
    params_below numbers params e f = all_below m.params params (e ∙ f) (λ r c. is_param c)

    pub reads_below : (f : flow.Flow) (p : ℕ) (i : Instr) (node : place.Place) → IsNodeAt m f p i node → All (λ n. n < len) (contents node.reads)
    reads_below f p i node here = all_below i.args (contents node.reads) here.reads (λ r c. is_in_code (in_ending (ending_place m p here.at) (in_args c)))

    pub writes_below : (f : flow.Flow) (p : ℕ) (i : Instr) (node : place.Place) → IsNodeAt m f p i node → All (λ n. n < len) (contents node.writes)
    writes_below f p i node here =
        all_below (registers_written m i) (contents node.writes) here.writes (λ r c. by r (Contains-append_cases i.results (killed m i) r c))
      where
        by : (r : Reg) → Contains i.results r ⊎ Contains (killed m i) r → IsRegister m r
        by r (inl c) = is_in_code (in_ending (ending_place m p here.at) (in_results c))
        by r (inr c) = is_colour (killed_is_colour m i r c)

  pub places_below : (f : flow.Flow) (p : ℕ) (i : Instr) (node : place.Place) (count : ℕ) → IsFlowOf m f → IsNodeAt m f p i node →
      count ≡ suc (length m.code) → All (λ q. q < count) (contents node.next)
  places_below f p i node count is here e =
      let places = is.places in
      let same : length (contents f.places) ≡ count = omega (arith, places, e) in
      subst (λ k. All (λ q. q < k) (contents node.next)) same here.formed.next

  -- ---- one instruction

  -- the register is read, written or live at an instruction
  pub data IsAtInstr (n : ℕ) (i : Instr) (next : List Instr) : Type 0 where
    in_reads : AmongRegisters n i.args → IsAtInstr n i next
    in_writes : Writes m i n → IsAtInstr n i next
    live_before : Live m n (i ∷ next) → IsAtInstr n i next
    live_after : LiveAfter m n i next → IsAtInstr n i next

  at_place : (n p : ℕ) (i : Instr) (next : List Instr) → drop p m.code ≡ i ∷ next → IsAtInstr n i next → IsAtPlace m n p
  at_place n p i next e (in_reads a) = reads p i next e a
  at_place n p i next e (in_writes w) = writes p i next e w
  at_place n p i next e (live_before l) = before p i next e l
  at_place n p i next e (live_after l) = after p i next e l

  module _ (live : LiveMap) (is : IsLiveMap m live) where
    abbrev rows : List (List Bool)
    rows = live.before.rows.items

    live_at : (k q : ℕ) (rest : List Instr) → Ending rest m.code → code_index m rest ≡ q → has (set_in_row rows q) k ≡ true → Live m k rest
    live_at k q rest e same h =
        subst (Live m k) (place_is m e)
        ((is.exact (code_index m rest) k).0 (subst (λ q. has (set_in_row rows q) k ≡ true) (sym same) h))

    at_live : (k : ℕ) (rest : List Instr) → Ending rest m.code → Live m k rest → has (set_in_row rows (code_index m rest)) k ≡ true
    at_live k rest e l = (is.exact (code_index m rest) k).1 (subst (Live m k) (sym (place_is m e)) l)

    module _ (f : flow.Flow) (p : ℕ) (i : Instr) (node : place.Place) (here : IsNodeAt m f p i node) where
      abbrev next : List Instr
      next = drop (suc p) m.code

      seen_is : (n q : ℕ) → IsSeen node rows p n q → IsAtInstr n i next
      seen_is n q (is_read h) = in_reads (among_numbers n i.args (subst (λ ns. Contains ns n) here.reads h.among))
      seen_is n q (is_written h) = in_writes (among_numbers n (registers_written m i) (subst (λ ns. Contains ns n) here.writes h.among))
      seen_is n q (is_live h) = live_before (subst (Live m n) here.at ((is.exact p n).0 h.member))
      seen_is n q (is_live_after h) =
          let t = target_of m next (targets i.op) h.after (subst (λ qs. Contains qs h.after) here.next h.among) in
          live_after (after_step (goes t.0 t.1) (live_at n h.after (code_at m.code next t.0) (ending_at t.0 (ending_place m p here.at)) t.2 h.live))

      is_seen : (n q : ℕ) → p ≡ q → IsAtInstr n i next → IsSeen node rows p n q
      is_seen n q e (in_reads a) = is_read (record { among = subst (λ ns. Contains ns n) (sym here.reads) (in_numbers a); place = e })
      is_seen n q e (in_writes w) = is_written (record { among = subst (λ ns. Contains ns n) (sym here.writes) (in_numbers w); place = e })
      is_seen n q e (live_before l) = is_live (record { member = (is.exact p n).1 (subst (Live m n) (sym here.at) l); place = e })
      is_seen n q e (live_after l) = by l
        where
          by : LiveAfter m n i next → IsSeen node rows p n q
          by (after_step (goes t o) l) =
              is_live_after (record {
                after = code_index m (code_at m.code next t);
                among = subst (λ qs. Contains qs (code_index m (code_at m.code next t))) (sym here.next) (in_targets m next o);
                live = at_live n (code_at m.code next t) (ending_at t (ending_place m p here.at)) l;
                place = e;
              })

      seen_place : (n q : ℕ) → IsSeen node rows p n q → p ≡ q
      seen_place n q (is_read h) = h.place
      seen_place n q (is_written h) = h.place
      seen_place n q (is_live h) = h.place
      seen_place n q (is_live_after h) = h.place

  -- ---- the instructions so far

  pub data IsAtSoFar (b n p : ℕ) : Type 0 where
    by_entry : AmongRegisters n m.params → 0 ≡ p → IsAtSoFar b n p
    by_instr : (i : Instr) → p < b → drop p m.code ≡ i ∷ drop (suc p) m.code → IsAtInstr n i (drop (suc p) m.code) → IsAtSoFar b n p

  -- the table has exactly what is seen at the entry and at so many places
  pub record HasRanges (size b : ℕ) (t : RangeTable) : Type 0 where
    pub len : length t ≡ size
    pub sound : (n p : ℕ) → IsEnd t n p → IsAtSoFar b n p
    pub whole : (n p : ℕ) → IsAtSoFar b n p → IsWithin t n p

  pub ranges_begun : (size : ℕ) (empty t : RangeTable) (numbers params : List ℕ) → params ≡ numbers → numbers ≡ numbers_of_registers m.params →
      length empty ≡ size → ((n : ℕ) → range_at empty n ≡ None) → Widens empty t (AreSights params 0) → HasRanges size 0 t
  ranges_begun size empty t numbers params e f len none h =
      record {
        len = h.len ∙ len;
        sound = λ n p g. ⊎_elim (λ o. absurd (no_end n p o))
            (λ s. by_entry (among_numbers n m.params (subst (λ ns. Contains ns n) (e ∙ f) s.among)) s.place) (h.sound n p g);
        whole = λ n p a. from n p a;
      }
    where
      no_end : (n p : ℕ) → IsEnd empty n p → ⊥
      no_end n p (begins r s g) = let x = none n in cc
      no_end n p (ends r s g) = let x = none n in cc

      from : (n p : ℕ) → IsAtSoFar 0 n p → IsWithin t n p
      from n p (by_entry a z) = h.whole n p (record { among = subst (λ ns. Contains ns n) (sym (e ∙ f)) (in_numbers a); place = z })
      from n p (by_instr i lt at d) = absurd (omega (arith, lt))

  pub ranges_more : (size p : ℕ) (live : LiveMap) (f : flow.Flow) (i : Instr) (node : place.Place) (old new : RangeTable) → IsLiveMap m live →
      IsNodeAt m f p i node → HasRanges size p old → Widens old new (IsSeen node live.before.rows.items p) → HasRanges size (p + 1) new
  ranges_more size p live f i node old new is here had h =
      record {
        len = h.len ∙ had.len;
        sound = λ n q g. ⊎_elim (λ o. longer n q (had.sound n q o))
            (λ s. now n q (seen_place live is f p i node here n q s) (seen_is live is f p i node here n q s)) (h.sound n q g);
        whole = λ n q a. by n q a;
      }
    where
      longer : (n q : ℕ) → IsAtSoFar p n q → IsAtSoFar (p + 1) n q
      longer n q (by_entry a z) = by_entry a z
      longer n q (by_instr j lt e d) = by_instr j (omega (arith, lt)) e d

      now : (n q : ℕ) → p ≡ q → IsAtInstr n i (drop (suc p) m.code) → IsAtSoFar (p + 1) n q
      now n q e d = subst (IsAtSoFar (p + 1) n) e (by_instr i (omega arith) here.at d)

      heads : (j : Instr) (xs ys : List Instr) → j ∷ xs ≡ i ∷ ys → j ≡ i
      heads j xs ys e = cc

      by : (n q : ℕ) → IsAtSoFar (p + 1) n q → IsWithin new n q
      by n q (by_entry a z) = h.kept n q (had.whole n q (by_entry a z))
      by n q (by_instr j lt e d) =
          ⊎_elim (λ (l : q < p). h.kept n q (had.whole n q (by_instr j l e d)))
          (λ (l : p ≤ q).
          let s : p ≡ q = omega (arith, lt, l) in
          h.whole n q (is_seen live is f p i node here n q s (moved q s j e d)))
          (cases_lt q p)
        where
          moved : (q : ℕ) → p ≡ q → (j : Instr) → drop q m.code ≡ j ∷ drop (suc q) m.code → IsAtInstr n j (drop (suc q) m.code) → IsAtInstr n i (drop (suc p) m.code)
          moved q s j e d =
              let e2 : drop p m.code ≡ j ∷ drop (suc p) m.code = subst (λ k. drop k m.code ≡ j ∷ drop (suc k) m.code) (sym s) e in
              let same : j ≡ i = heads j (drop (suc p) m.code) (drop (suc p) m.code) (sym e2 ∙ here.at) in
              subst (λ k. IsAtInstr n k (drop (suc p) m.code)) same
              (subst (λ k. IsAtInstr n j (drop (suc k) m.code)) (sym s) d)

  -- all places are done
  pub ranges_all : (size p : ℕ) (t : RangeTable) → length m.code ≤ p → HasRanges size p t → AreRangesOf m t
  ranges_all size p t le had =
      record {
        sound = λ n q g. to n q (had.sound n q g);
        whole = λ n q a. had.whole n q (from n q a);
      }
    where
      to : (n q : ℕ) → IsAtSoFar p n q → IsAtPlace m n q
      to n q (by_entry a z) = subst (IsAtPlace m n) z (at_entry a)
      to n q (by_instr i lt e d) = at_place n q i (drop (suc q) m.code) e d

      behind : (xs : List Instr) (q : ℕ) (i : Instr) (next : List Instr) → drop q xs ≡ i ∷ next → (q < length xs) × (next ≡ drop (suc q) xs)
      behind xs q i next e =
          ⊎_elim (λ (lt : q < length xs). let d = drop-cons xs q i lt in (lt, tails i (get_or xs q i) next (drop (suc q) xs) (sym e ∙ d)))
          (λ (le : length xs ≤ q). absurd (nothing xs q i next le e)) (cases_lt q (length xs))
        where
          tails : (a b : Instr) (us vs : List Instr) → a ∷ us ≡ b ∷ vs → us ≡ vs
          tails a b us vs e = cc

          nothing : (xs : List Instr) (q : ℕ) (i : Instr) (next : List Instr) → length xs ≤ q → drop q xs ≡ i ∷ next → ⊥
          nothing [] zero i next le e = cc
          nothing [] (suc q) i next le e = cc
          nothing (x ∷ xs) zero i next le e = absurd (omega (arith, le))
          nothing (x ∷ xs) (suc q) i next le e = nothing xs q i next (omega (arith, le)) e

      at_instr : (n q : ℕ) (i : Instr) (next : List Instr) → drop q m.code ≡ i ∷ next → IsAtInstr n i next → IsAtSoFar p n q
      at_instr n q i next e d =
          let w = behind m.code q i next e in
          let lt = w.0 in
          by_instr i (omega (arith, lt, le)) (e ∙ ap (λ xs. i ∷ xs) w.1) (subst (IsAtInstr n i) w.1 d)

      from : (n q : ℕ) → IsAtPlace m n q → IsAtSoFar p n q
      from n _ (at_entry a) = by_entry a refl
      from n _ (reads q i next e a) = at_instr n q i next e (in_reads a)
      from n _ (writes q i next e w) = at_instr n q i next e (in_writes w)
      from n _ (before q i next e l) = at_instr n q i next e (live_before l)
      from n _ (after q i next e l) = at_instr n q i next e (live_after l)
