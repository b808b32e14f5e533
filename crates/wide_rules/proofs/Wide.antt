-- A round of a function with an instruction of more results than colours asks for another, and makes such a function again.
use Rattle.std.proofs.Common.{◌≡◌, ◌≢◌, ℕ, zero, suc, ◌<◌, ◌≤◌, Bool, true, false, cond, ◌||◌, ◌&&◌, ◌⊎◌, inl, inr, ⊎_elim, List, [], ◌∷◌, ◌++◌, length, refl, sym, ap, ◌∙◌, subst, arith}
use Rattle.std.specs.List.{Contains}
use Rattle.std.proofs.lemmas.Bool.{true≢false}
use Rattle.std.proofs.lemmas.List.Elements.{All-contains}
use Rattle.bs_words.proofs.Lists.{none_in, first_in, later_in, in_cons, mapped}
use Rattle.bs_words.specs.declared.types.Loc.{Loc}
use Rattle.bs_words.specs.declared.types.Loc.TheVariants as loc
use Rattle.choices.specs.declared.choices.Alloc.{Alloc}
use Rattle.mach_ir.specs.Acts.{On}
use Rattle.mach_ir.specs.Formed.{WellFormed, AreDistinct}
use Rattle.mach_ir.specs.Graph.{coloured_location}
use Rattle.mach_ir.specs.Meaning.{killed}
use Rattle.mach_ir.specs.Placed.{Colouring, IsProperColouring, HasColourOrSlot, in_colour, in_slot, placed_by, WellPlaced, colour_numbers}
use Rattle.mach_ir.specs.Walks.{AmongRegisters, first, later, goes, after_step, StandsAsInstr, here, below, IsRegister, is_in_code, IsMove, is_move, at_write, Joined, one_way}
use Rattle.mach_ir.specs.declared.reg.Reg.{Reg}
use Rattle.mach_ir.specs.declared.mach.Instr.{Instr}
use Rattle.mach_ir.specs.declared.mach.Mach.{Mach}
use Rattle.mach_laws.proofs.Among.{none_among, left_among, among_of, number_among}
use Rattle.mach_laws.proofs.Colouring.{colouring_of}
use Rattle.mach_laws.proofs.Places.{results_in, contains_of}
use Rattle.colouring_rules.specs.Places.{LocationAssignment, located_register, all_placed, placed_instr, placed_code, ColoursLow, rest_in_slots}
use Rattle.colouring_rules.proofs.Lists.{was}
use Rattle.reload_rules.specs.Reloaded.{reads_registers, writes_registers, is_in_slot, is_renewed, fresh_stand_in, next_reload_number, spills, results_from, past_instr, renewed_instr, reloaded_code, reloaded, any_renewed, needs_registers, any_needs, slot_or, to_slots, in_slots, IsReloadedBy, is_coloured, asks_again}
use Rattle.reload_rules.proofs.Copies.{same_length}
use Rattle.reload_rules.proofs.Numbers.{IsFor, for_this, for_other, for_from, WasIn, was_own, was_fresh, was_in, past_rises}
use Rattle.spill_rules.specs.Spilled.{copy_instruction}
use Rattle.mach_ir.specs.declared.op.CopyKind.TheVariants as copy
use Rattle.reg_rounds_rules.specs.Rounds.{IsRound, RoundsAsked, none_yet, one_more, most_rounds, EndsRounds, asks_no_more, gives_up, IsAllocatedIn}
use Rattle.reg_rounds_rules.proofs.Kept.{still_formed, still_placed}
use Rattle.wide_rules.specs.Wide.{IsReadSoon, read_now, read_later, IsWideAt, HasWideInstr, AllHaveRounds}
use Rattle.wide_rules.proofs.Holes.{Differ, no_numbers, one_differs, holes}
use Rattle.wide_rules.proofs.Soon.{soon_live, soon_placed, soon_reloaded, stands_reloaded}

-- ---- numbers of results

data Distinct : List Reg → Type 0 where
  no_regs : Distinct []
  one_reg : {r : Reg} {rs : List Reg} → (AmongRegisters r.number rs → ⊥) → Distinct rs → Distinct (r ∷ rs)

distinct_of : (rs : List Reg) → AreDistinct rs → Distinct rs
distinct_of [] h = no_regs
distinct_of (r ∷ rs) h =
    one_reg
    (λ a.
    let q = number_among rs a in
    let at = q.1 in
    h 0 (suc at.0) q.0 (omega arith) (by at.0 at.1) (sym q.2 ∙ sym (ap (λ (x : Reg). x.number) (at.2))))
    (distinct_of rs (λ i j d lt within. h (suc i) (suc j) d (omega (arith, lt)) (omega (arith, within))))
  where
    by : (k : ℕ) → k < length rs → suc k < length (r ∷ rs)
    by k lt = omega (arith, lt)

-- ---- a round that asks for no other

slot_of : {l : Loc} {k : ℕ} → l ≡ loc.Slot k → is_in_slot l ≡ true
slot_of e = ap is_in_slot e

or_right : (a b : Bool) → a || b ≡ false → b ≡ false
or_right true b e = absurd (true≢false e)
or_right false b e = e

or_left : (a b : Bool) → a || b ≡ false → a ≡ false
or_left true b e = e
or_left false b e = refl

none_needed : {j : Instr} {rest code : List Instr} → any_needs code ≡ false → StandsAsInstr j rest code → needs_registers j ≡ false
none_needed {j} {rest} e here = or_left (needs_registers j) (any_needs rest) e
none_needed e (below {j = k} {is = is} s) = none_needed (or_right (needs_registers k) (any_needs is) e) s

stands_placed : (place : LocationAssignment) {i : Instr} {next code : List Instr} → StandsAsInstr i next code →
    StandsAsInstr (placed_instr place i) (placed_code place next) (placed_code place code)
stands_placed place here = here
stands_placed place (below s) = below (stands_placed place s)

none_renewed : (b : Bool) → b ≡ true → (rs : List Reg) → any_renewed b rs ≡ false → (r : Reg) → Contains rs r → is_in_slot r.loc ≡ false
none_renewed b t [] e r c = absurd (none_in r c)
none_renewed b t (x ∷ rs) e r c =
    ⊎_elim
    (λ s. subst (λ (r : Reg). is_in_slot r.loc ≡ false) s
    (subst (λ b. b && is_in_slot x.loc ≡ false) t (or_left (is_renewed b x) (any_renewed b rs) e)))
    (λ d. none_renewed b t rs (or_right (is_renewed b x) (any_renewed b rs) e) r d) (in_cons x r rs c)

machine_slot : {l : Loc} {n k : ℕ} → l ≡ loc.Machine n → l ≡ loc.Slot k → ⊥
machine_slot e s = cc

same_machine : {l : Loc} (o : Loc) → l ≡ o → is_in_slot (slot_or loc.Unset l) ≡ false → (k : ℕ) → l ≡ loc.Slot k → ⊥
same_machine o s f k e = true≢false (sym (subst (λ l. is_in_slot (slot_or loc.Unset l) ≡ true) (sym e) refl) ∙ f)

no_move : {i : Instr} {a b : ℕ} → writes_registers i.op ≡ true → IsMove a b i → ⊥
no_move w (is_move e g) = true≢false (sym w)

module _ (m : Mach) (formed : WellFormed m) (place : Colouring) (colouring : IsProperColouring (IsRegister m) (Joined m) place)
    (i : Instr) (next : List Instr) (stands : StandsAsInstr i next m.code) (wide : IsWideAt i next) where
  is_one : (r : Reg) → Contains i.results r → IsRegister m r
  is_one r c = is_in_code (results_in stands c)

  -- two results are joined
  joined : (r q : Reg) → Contains i.results r → Contains i.results q → r.number ≢ q.number → Joined m r.number q.number
  joined r q c d apart =
      one_way apart
      (at_write i next stands (left_among i.results (killed m i) (among_of r i.results c))
      (after_step (goes On wide.goes) (soon_live m q.number (wide.soon q d))) (no_move wide.writes))

  -- so they are at different colours
  apart : (r q : Reg) → Contains i.results r → Contains i.results q → r.number ≢ q.number → (n : ℕ) → place r.number ≡ loc.Machine n →
      place q.number ≡ loc.Machine n → ⊥
  apart r q c d differ n e g =
      let share = colouring.apart r q (is_one r c) (is_one q d) (joined r q c d differ) (e ∙ sym g) in machine_slot e share.1

  data At : List Reg → List ℕ → Type 0 where
    none_at : At [] []
    one_at : {r : Reg} {rs : List Reg} {n : ℕ} {ns : List ℕ} → place r.number ≡ loc.Machine n → Contains colour_numbers n → At rs ns →
        At (r ∷ rs) (n ∷ ns)

  record Row (rs : List Reg) : Type 0 where
    ns : List ℕ
    at : At rs ns

  row : (rs : List Reg) → ((r : Reg) → Contains rs r → Contains i.results r) → ((r : Reg) → Contains i.results r → (k : ℕ) → place r.number ≡ loc.Slot k → ⊥) →
      Row rs
  row [] inside free = record { ns = []; at = none_at }
  row (r ∷ rs) inside free =
      by (colouring.places r (is_one r (inside r (first_in r rs)))) (row rs (λ q c. inside q (later_in r q rs c)) free)
    where
      by : HasColourOrSlot (placed_by place r) → Row rs → Row (r ∷ rs)
      by (in_colour n c e) h = record { ns = n ∷ h.ns; at = one_at e c h.at }
      by (in_slot e) h = absurd (free r (inside r (first_in r rs)) r.origin e)

  found : {rs : List Reg} {ns : List ℕ} → At rs ns → (n : ℕ) → Contains ns n → (r : Reg) × Contains rs r × (place r.number ≡ loc.Machine n)
  found none_at n c = absurd (none_in n c)
  found (one_at {r = r} {rs = rs} {n = k} {ns = ns} e g h) n c =
      ⊎_elim (λ s. (r, first_in r rs, e ∙ ap loc.Machine s))
      (λ d. let q = found h n d in (q.0, later_in r q.0 rs q.1, q.2)) (in_cons k n ns c)

  all_colours : {rs : List Reg} {ns : List ℕ} → At rs ns → (n : ℕ) → Contains ns n → Contains colour_numbers n
  all_colours none_at n c = absurd (none_in n c)
  all_colours (one_at {n = k} {ns = ns} e g h) n c = ⊎_elim (λ s. subst (Contains colour_numbers) s g) (λ d. all_colours h n d) (in_cons k n ns c)

  differ : {rs : List Reg} {ns : List ℕ} → At rs ns → Distinct rs → ((r : Reg) → Contains rs r → Contains i.results r) → Differ ns
  differ none_at d inside = no_numbers
  differ (one_at {r = r} {rs = rs} {n = k} e g h) (one_reg free d) inside =
      one_differs
      (λ c.
      let q = found h k c in
      apart r q.0 (inside r (first_in r rs)) (inside q.0 (later_in r q.0 rs q.1))
      (λ same. free (subst (λ n. AmongRegisters n rs) (sym same) (among_of q.0 rs q.1))) k e q.2)
      (differ h d (λ q c. inside q (later_in r q rs c)))

  as_long : {rs : List Reg} {ns : List ℕ} → At rs ns → length ns ≡ length rs
  as_long none_at = refl
  as_long (one_at e g h) = ap suc (as_long h)

  -- A round that asks for no other would have more colours than there are.
  pub not_done : any_needs (in_slots place m).code ≡ false → ⊥
  not_done none =
      let needs = none_needed none (stands_placed (to_slots place) stands) in
      let few = or_right (any_renewed (reads_registers i.op) (all_placed (to_slots place) i.args))
      (any_renewed (writes_registers i.op) (all_placed (to_slots place) i.results)) needs in
      let free : (r : Reg) → Contains i.results r → (k : ℕ) → place r.number ≡ loc.Slot k → ⊥ =
      λ r c k e.
      let out = none_renewed (writes_registers i.op) wide.writes (all_placed (to_slots place) i.results) few (located_register (to_slots place) r)
      (mapped (located_register (to_slots place)) i.results r c) in
      same_machine (place r.number) refl (subst (λ l. is_in_slot (slot_or l (place r.number)) ≡ false) (wide.open_ones r c) out) k e in
      let w = row i.results (λ r c. c) free in
      let long = as_long w.at in
      let le = holes w.ns colour_numbers
      (differ w.at (distinct_of i.results (All-contains (λ (i : Instr). AreDistinct i.results) m.code i formed.distinct (contains_of stands))) (λ r c. c))
      (all_colours w.at) in
      let many = wide.many in
      absurd (omega (arith, long, le, many))

-- ---- what a round makes

placed_long : (place : LocationAssignment) (rs : List Reg) → length (all_placed place rs) ≡ length rs
placed_long place [] = refl
placed_long place (r ∷ rs) = ap suc (placed_long place rs)

-- this register, or a later one
split_for : {b : Bool} {k x : ℕ} {r w : Reg} {rs : List Reg} → IsFor b k (r ∷ rs) x w →
    ((x ≡ k) × (is_renewed b r ≡ true)) ⊎ IsFor b (next_reload_number b k r) rs x w
split_for (for_this e) = inl (refl, e)
split_for (for_other g) = inr g

-- what is written by no spill, and what the spill of a fresh register reads
module _ (b : Bool) (ys : List Instr) where
  past_others : (n k : ℕ) (rs : List Reg) → ((w : Reg) → Contains rs w → is_renewed b w ≡ true → w.number ≡ n → ⊥) → IsReadSoon n ys →
      IsReadSoon n (spills b k rs ++ ys)
  past_others n k [] free h = h
  past_others n k (r ∷ rs) free h =
      by (λ k. past_others n k rs (λ w c. free w (later_in r w rs c)) h) (is_renewed b r) refl
    where
      by : ((k : ℕ) → IsReadSoon n (spills b k rs ++ ys)) → (t : Bool) → is_renewed b r ≡ t →
          IsReadSoon n (cond t (copy_instruction copy.Spill (fresh_stand_in k r) r ∷ spills b (suc k) rs) (spills b k rs) ++ ys)
      by ih true e = read_later refl other (ih (suc k))
        where
          other : AmongRegisters n (r ∷ []) → ⊥
          other (first s) = free r (first_in r rs) e s
          other (later a) = none_among a
      by ih false e = ih k

  spill_reads : (x : ℕ) (w : Reg) (k : ℕ) (rs : List Reg) → IsFor b k rs x w → ((n : ℕ) → AmongRegisters n rs → n < k) → IsReadSoon x (spills b k rs ++ ys)
  spill_reads x w k [] h small = elim h [ ]
  spill_reads x w k (r ∷ rs) h small =
      by (λ k h lt. spill_reads x w k rs h lt) (is_renewed b r) refl (split_for h)
    where
      fewer : (n : ℕ) → AmongRegisters n rs → n < k
      fewer n a = small n (later a)

      other : IsFor b (suc k) rs x w → AmongRegisters x (r ∷ []) → ⊥
      other g (first s) = let le = for_from b g in let lt = small r.number (first refl) in absurd (omega (arith, le, lt, s))
      other g (later a) = none_among a

      by : ((k : ℕ) → IsFor b k rs x w → ((n : ℕ) → AmongRegisters n rs → n < k) → IsReadSoon x (spills b k rs ++ ys)) → (t : Bool) → is_renewed b r ≡ t →
          ((x ≡ k) × (is_renewed b r ≡ true)) ⊎ IsFor b (next_reload_number b k r) rs x w →
          IsReadSoon x (cond t (copy_instruction copy.Spill (fresh_stand_in k r) r ∷ spills b (suc k) rs) (spills b k rs) ++ ys)
      by ih true e (inl g) = read_now (first (sym g.0))
      by ih true e (inr g) =
          let g2 : IsFor b (suc k) rs x w = subst (λ t. IsFor b (cond t (suc k) k) rs x w) e g in
          read_later refl (other g2) (ih (suc k) g2 (λ n a. let lt = fewer n a in omega (arith, lt)))
      by ih false e (inl g) = absurd (true≢false (sym g.1 ∙ e))
      by ih false e (inr g) = ih k (subst (λ t. IsFor b (cond t (suc k) k) rs x w) e g) fewer

-- a result that is not renewed is open
still_open : (l : Loc) (b : Bool) → b ≡ true → b && is_in_slot (slot_or loc.Unset l) ≡ false → slot_or loc.Unset l ≡ loc.Unset
still_open (loc.Slot k) b t e = absurd (true≢false (sym (subst (λ b. b && true ≡ true) (sym t) refl) ∙ e))
still_open (loc.Machine n) b t e = refl
still_open loc.Unset b t e = refl

module _ (m : Mach) (formed : WellFormed m) (place : Colouring) (free : ℕ) (above : (r : Reg) → IsRegister m r → r.number < free)
    (i : Instr) (next : List Instr) (stands : StandsAsInstr i next m.code) (wide : IsWideAt i next) where
  abbrev slots : LocationAssignment
  slots = to_slots place

  abbrev j : Instr
  j = placed_instr (to_slots place) i

  below_free : (r : Reg) → Contains i.results r → r.number < free
  below_free r c = above r (is_in_code (results_in stands c))

  among_below : (n : ℕ) → AmongRegisters n (all_placed (to_slots place) i.results) → n < free
  among_below n a =
      let q = number_among (all_placed (to_slots place) i.results) a in
      let w = was (located_register (to_slots place)) i.results q.0 q.1 in
      let lt = below_free w.what w.among in
      subst (λ k. k < free) (ap (λ (r : Reg). r.number) w.same ∙ q.2) lt

  one_number : (r q : Reg) → Contains i.results r → Contains i.results q → r.number ≡ q.number → r ≡ q
  one_number r q c d e = formed.numbers r q (is_in_code (results_in stands c)) (is_in_code (results_in stands d)) e

  module _ (k : ℕ) (up : free ≤ k) where
    abbrev b : Bool
    b = writes_registers i.op

    abbrev from : ℕ
    from = results_from k (placed_instr (to_slots place) i)

    abbrev rs : List Reg
    rs = all_placed (to_slots place) i.results

    abbrev rest : List Instr
    rest = reloaded_code (past_instr k (placed_instr (to_slots place) i)) (placed_code (to_slots place) next)

    from_up : k ≤ results_from k (placed_instr (to_slots place) i)
    from_up = past_rises (reads_registers i.op) k (all_placed (to_slots place) i.args)

    past_up : k ≤ past_instr k (placed_instr (to_slots place) i)
    past_up =
        let one = from_up in
        let two = past_rises (writes_registers i.op) (results_from k (placed_instr (to_slots place) i)) (all_placed (to_slots place) i.results) in
        omega (arith, one, two)

    open_in : (r : Reg) → WasIn (writes_registers i.op) (results_from k (placed_instr (to_slots place) i)) (all_placed (to_slots place) i.results) r →
        r.loc ≡ loc.Unset
    open_in r (was_own c e) =
        let w = was (located_register (to_slots place)) i.results r c in
        let o = wide.open_ones w.what w.among in
        let here : slot_or (w.what).loc (place (w.what).number) ≡ r.loc = ap (λ (r : Reg). r.loc) w.same in
        let at : slot_or loc.Unset (place (w.what).number) ≡ r.loc = ap (λ l. slot_or l (place (w.what).number)) (sym o) ∙ here in
        sym at
        ∙ still_open (place (w.what).number) (writes_registers i.op) wide.writes
        (ap (λ l. writes_registers i.op && is_in_slot l) at ∙ e)
    open_in r (was_fresh x w h e) = ap (λ (r : Reg). r.loc) (sym e)

    soon_in : (r : Reg) → WasIn (writes_registers i.op) (results_from k (placed_instr (to_slots place) i)) (all_placed (to_slots place) i.results) r →
        IsReadSoon r.number
        (spills (writes_registers i.op) (results_from k (placed_instr (to_slots place) i)) (all_placed (to_slots place) i.results)
        ++ reloaded_code (past_instr k (placed_instr (to_slots place) i)) (placed_code (to_slots place) next))
    soon_in r (was_own c e) =
        let w = was (located_register (to_slots place)) i.results r c in
        let number : (w.what).number ≡ r.number = ap (λ (r : Reg). r.number) w.same in
        let lt = below_free w.what w.among in
        let high = past_up in
        past_others b rest r.number from rs
        (λ o d t same.
        let v = was (located_register (to_slots place)) i.results o d in
        let one = one_number v.what w.what v.among w.among (ap (λ (r : Reg). r.number) v.same ∙ same ∙ sym number) in
        let as_one : o ≡ r = sym v.same ∙ ap (located_register (to_slots place)) one ∙ w.same in
        true≢false (sym t ∙ ap (is_renewed b) as_one ∙ e))
        (soon_reloaded (subst (λ n. IsReadSoon n (placed_code (to_slots place) next)) number (soon_placed (to_slots place) (wide.soon w.what w.among)))
        (past_instr k (placed_instr (to_slots place) i)) (omega (arith, lt, number, up, high)))
    soon_in r (was_fresh x w h e) =
        subst (λ n. IsReadSoon n (spills b from rs ++ rest)) (ap (λ (r : Reg). r.number) e)
        (spill_reads b rest x w from rs h (λ n a. let lt = among_below n a in let high = from_up in omega (arith, lt, high, up)))

    wide_again : IsWideAt (renewed_instr k (placed_instr (to_slots place) i))
        (spills (writes_registers i.op) (results_from k (placed_instr (to_slots place) i)) (all_placed (to_slots place) i.results)
        ++ reloaded_code (past_instr k (placed_instr (to_slots place) i)) (placed_code (to_slots place) next))
    wide_again =
        record {
          writes = wide.writes;
          goes = wide.goes;
          open_ones = λ r c. open_in r (was_in b from rs r c);
          soon = λ r c. soon_in r (was_in b from rs r c);
          many =
              let x = same_length b from rs in
              let y = placed_long (to_slots place) i.results in
              let z = wide.many in omega (arith, x, y, z);
        }

  pub still_wide : HasWideInstr (reloaded free (in_slots place m))
  still_wide =
      let h = stands_reloaded (stands_placed (to_slots place) stands) free in
      record { instr = renewed_instr h.0 j; next = _; stands = h.2; wide = wide_again h.0 h.1 }

-- ---- rounds

pub record RoundAsks (m q : Mach) (asks : Bool) : Type 0 where
  pub asks_on : asks ≡ true
  pub again : HasWideInstr q

by_reload : (m : Mach) → WellFormed m → HasWideInstr m → (place : Colouring) → IsProperColouring (IsRegister m) (Joined m) place → {q : Mach} {asks : Bool} →
    IsReloadedBy m place q asks → RoundAsks m q asks
by_reload m formed w place colouring (is_coloured none) = absurd (not_done m formed place colouring w.instr w.next w.stands w.wide none)
by_reload m formed w place colouring (asks_again {free = free} some is) =
    let old : (r : Reg) → IsRegister m r → r.number < free = λ r i. is.above r i in
    record { asks_on = refl; again = still_wide m formed place free old w.instr w.next w.stands w.wide }

module _ {alloc : Alloc} {fresh : ℕ} where
  pub round_asks : {m q : Mach} {asks : Bool} → WellFormed m → HasWideInstr m → IsRound alloc fresh m q asks → RoundAsks m q asks
  round_asks {m} formed w r = by_reload m formed w (coloured_location r.colours) (colouring_of m r.graph r.of_function (coloured_location r.colours) r.fine) r.reloaded

  module _ {first : Mach} (formed : WellFormed first) (well : WellPlaced first) (low : ColoursLow first) (w : HasWideInstr first) where
    pub wide_on : {rounds : ℕ} {m : Mach} → RoundsAsked alloc fresh first rounds m → HasWideInstr m
    wide_on none_yet = w
    wide_on (one_more a r) = (round_asks (still_formed formed well low a) (wide_on a) r).again

    pub asks_on : {rounds : ℕ} {m q : Mach} {asks : Bool} → RoundsAsked alloc fresh first rounds m → IsRound alloc fresh m q asks → asks ≡ true
    asks_on a r = (round_asks (still_formed formed well low a) (wide_on a) r).asks_on

    pub ends_so : {q : Mach} {rounds : ℕ} {rest : Bool} → EndsRounds alloc fresh first q rounds rest →
        (q ≡ rest_in_slots first) × (rounds ≡ most_rounds) × (rest ≡ true)
    ends_so (asks_no_more few a r) = absurd (true≢false (sym (asks_on a r)))
    ends_so (gives_up a) = (refl, refl, refl)

    pub all_rounds : AllHaveRounds alloc → (rounds : ℕ) → (m : Mach) × RoundsAsked alloc fresh first rounds m
    all_rounds h zero = (first, none_yet)
    all_rounds h (suc n) =
        let a = all_rounds h n in
        let r = h.round fresh a.0 (still_formed formed well low a.1) (still_placed formed well low a.1) in
        (r.result, one_more a.1 (subst (λ (t : Bool). IsRound alloc fresh a.0 r.result t) (asks_on a.1 r.is) r.is))

pub only_rest : (alloc : Alloc) (m q : Mach) (rounds : ℕ) (rest : Bool) → WellFormed m → WellPlaced m → ColoursLow m → HasWideInstr m →
    IsAllocatedIn alloc m q rounds rest → (q ≡ rest_in_slots m) × (rounds ≡ most_rounds) × (rest ≡ true)
only_rest alloc m q rounds gave_up formed well low w a = ends_so formed well low w a.ends

pub known_rest : (alloc : Alloc) (m : Mach) → WellFormed m → WellPlaced m → ColoursLow m → HasWideInstr m → AllHaveRounds alloc →
    IsAllocatedIn alloc m (rest_in_slots m) most_rounds true
known_rest alloc m formed well low w h =
    let f = h.free m in
    let a = all_rounds {alloc = alloc} {fresh = f.0} formed well low w h most_rounds in
    record { fresh = f.0; free = f.1; ends = gives_up a.1 }
