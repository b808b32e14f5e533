-- What a function still is whose open registers have been given places, joined ones apart.
use Rattle.std.proofs.Common.{◌≡◌, ◌≢◌, ℕ, ◌+◌, ◌≤◌, ◌<◌, Bool, true, false, cond, ◌⊎◌, inl, inr, ⊎_elim, List, [], ◌∷◌, ◌++◌, map, length, refl, sym, ap, ◌∙◌, subst}
use Rattle.std.proofs.lemmas.Bool.{eq-eqb, eqb-true}
use Rattle.std.specs.List.{Contains}
use Rattle.std.specs.Prelude.{nat_eq}
use Rattle.std.proofs.lemmas.List.{length-map}
use Rattle.bs_words.specs.declared.types.Loc.{Loc}
use Rattle.bs_words.specs.declared.types.Loc.TheVariants as loc
use Rattle.bs_words.proofs.Lists.{none_in, first_in, later_in, in_cons, mapped}
use Rattle.mach_ir.specs.Formed.{WellFormed}
use Rattle.mach_ir.specs.Keeps.{Keeps, IsLoose, is_open, is_slot, NamesSymbol, NamesExternal, IsNamedIn}
use Rattle.mach_ir.specs.Placed.{HasColourOrSlot, in_colour, in_slot, MayShare, WellPlaced, FullyPlaced}
use Rattle.mach_ir.specs.Seats.{argument_locations, result_locations, Seats, Anywhere, InOrder, AfterFirst, AreSeated, anywhere, in_order, after_first, places_of, mach_operand_seats, mach_result_seats, Seated}
use Rattle.mach_ir.specs.Sizes.{operand_count, Size, HasSize, OpenAtMost}
use Rattle.mach_ir.specs.Walks.{IsRegister, is_param, is_colour, is_in_code, InCode, in_args, in_results, further, Joined}
use Rattle.mach_ir.specs.declared.op.Callee.TheVariants as callee
use Rattle.mach_ir.specs.declared.op.Calling.TheVariants as calling
use Rattle.mach_ir.specs.declared.op.Leaving.TheVariants as leaving
use Rattle.mach_ir.specs.declared.op.Op.TheVariants as op
use Rattle.mach_ir.specs.declared.mach.Mark.TheVariants as mark
use Rattle.mach_ir.specs.declared.mach.MachOp.{MachOp}
use Rattle.mach_ir.specs.declared.mach.MachOp.TheVariants as mach
use Rattle.mach_ir.specs.declared.reg.Reg.{Reg}
use Rattle.mach_ir.specs.declared.mach.Instr.{Instr}
use Rattle.mach_ir.specs.declared.mach.Mach.{Mach}
use Rattle.mach_laws.proofs.Places.{args_in_code, results_in_code}
use Rattle.colouring_rules.specs.Places.{LocationAssignment, IsProperAssignment, located_register, all_placed, placed_instr, placed_code, with_places, IsSlot, SlotsGrow}
use Rattle.colouring_rules.proofs.Kept.{does_placed}
use Rattle.colouring_rules.proofs.Lists.{was}
use Rattle.colouring_rules.proofs.Text.{was_register}
use Rattle.colouring_rules.proofs.Open.{slot_open, machine_slot}
use Rattle.colouring_rules.proofs.Walked.{machine_stays, colour_stays, joined_before, no_addr_before}
use Rattle.bs_words.proofs.Places.{same_slot}

-- ---- seats

-- each of these places is a register of the machine
pub data AreRegisters : List Loc → Type 0 where
  none : AreRegisters []
  one : {n : ℕ} {ls : List Loc} → AreRegisters ls → AreRegisters (loc.Machine n ∷ ls)

result_registers : AreRegisters result_locations
result_registers = one none

argument_registers : AreRegisters argument_locations
argument_registers = one (one (one (one (one (one (one (one (one (one (one (one (one (one (one (one none)))))))))))))))

pub data FixedSeats : Seats → Type 0 where
  fixed_anywhere : FixedSeats Anywhere
  fixed_in_order : {places : List Loc} → AreRegisters places → FixedSeats (InOrder places)
  fixed_after_first : {places : List Loc} → AreRegisters places → FixedSeats (AfterFirst places)

pub fixed_operands : (f : MachOp) → FixedSeats (mach_operand_seats f)
fixed_operands (mach.Mark f) = fixed_anywhere
fixed_operands (mach.Op (op.Pure f)) = fixed_anywhere
fixed_operands (mach.Op (op.Access f)) = fixed_anywhere
fixed_operands (mach.Op (op.Calling (calling.Call (callee.Symbol name) result))) = fixed_in_order argument_registers
fixed_operands (mach.Op (op.Calling (calling.Call callee.Register result))) = fixed_after_first argument_registers
fixed_operands (mach.Op (op.Calling (calling.TailCall (callee.Symbol name) result))) = fixed_in_order argument_registers
fixed_operands (mach.Op (op.Calling (calling.TailCall callee.Register result))) = fixed_after_first argument_registers
fixed_operands (mach.Op (op.Calling (calling.External row frame))) = fixed_in_order argument_registers
fixed_operands (mach.Op (op.Leaving leaving.Raise)) = fixed_in_order result_registers
fixed_operands (mach.Op (op.Leaving leaving.Return)) = fixed_in_order result_registers
fixed_operands (mach.Op (op.Leaving (leaving.Checkbound r))) = fixed_anywhere

pub fixed_results : (f : MachOp) → FixedSeats (mach_result_seats f)
fixed_results (mach.Op (op.Pure f)) = fixed_anywhere
fixed_results (mach.Op (op.Access f)) = fixed_anywhere
fixed_results (mach.Op (op.Calling f)) = fixed_in_order result_registers
fixed_results (mach.Op (op.Leaving f)) = fixed_anywhere
fixed_results (mach.Mark (mark.Handler l)) = fixed_in_order result_registers
fixed_results (mach.Mark _) = fixed_anywhere

pub tail_fixed : {l : Loc} {ls : List Loc} → AreRegisters (l ∷ ls) → AreRegisters ls
tail_fixed (one h) = h

pub head_fixed : {l : Loc} {ls : List Loc} → AreRegisters (l ∷ ls) → (n : ℕ) × (l ≡ loc.Machine n)
head_fixed (one {n = n} h) = (n, refl)

-- ---- whole

module _ (m : Mach) (place : LocationAssignment) where
  abbrev q : Mach
  q = with_places place m

  number_same : (w : Reg) {r : Reg} → located_register place w ≡ r → w.number ≡ r.number
  number_same w e = ap (λ (r : Reg). r.number) e

  origin_same : (w : Reg) {r : Reg} → located_register place w ≡ r → w.origin ≡ r.origin
  origin_same w e = ap (λ (r : Reg). r.origin) e

  loc_same : (w : Reg) {r : Reg} → located_register place w ≡ r → place w ≡ r.loc
  loc_same w e = ap (λ (r : Reg). r.loc) e

  -- ---- measures

  same_count : (code : List Instr) → operand_count (placed_code place code) ≡ operand_count code
  same_count [] = refl
  same_count (i ∷ is) =
      ap (λ n. n + length (all_placed place i.results) + operand_count (placed_code place is))
      (length-map i.args (located_register place))
      ∙ ap (λ n. length i.args + n + operand_count (placed_code place is)) (length-map i.results (located_register place))
      ∙ ap (λ n. length i.args + length i.results + n) (same_count is)

  -- It is as large as it was, wherever its registers are.
  pub placed_size : (s : Size) → HasSize m s → HasSize (with_places place m) s
  placed_size s h =
      record {
        instrs = subst (λ n. n ≤ s.instrs) (sym (length-map m.code (placed_instr place))) h.instrs;
        operands = subst (λ n. n ≤ s.operands) (sym (same_count m.code)) h.operands;
        numbers = λ r i.
            let w = was_register place m r i in
            subst (λ n. n < s.registers) (number_same w.register w.same) (h.numbers w.register w.among);
        origins = λ r i.
            let w = was_register place m r i in
            subst (λ n. n < s.registers) (origin_same w.register w.same) (h.origins w.register w.among);
        labels = h.labels;
      }

  module _ (formed : WellFormed m) (well : WellPlaced m) (is : IsProperAssignment m place) where
    -- ---- it keeps

    was_loose : (w r : Reg) → IsRegister m w → located_register place w ≡ r → IsLoose r → IsLoose w
    was_loose w r i e h = ⊎_elim is_open (λ s. by s h) (is.fixed w i)
      where
        by : place w ≡ w.loc → IsLoose r → IsLoose w
        by s (is_open u) = is_open (sym s ∙ loc_same w e ∙ u)
        by s (is_slot u) = is_slot (sym s ∙ loc_same w e ∙ u)

    -- a register that was open and is in a slot is in that of its origin
    slot_of : (w : Reg) (k : ℕ) → IsRegister m w → place w ≡ loc.Slot k → k ≡ w.origin
    slot_of w k i e = ⊎_elim (λ o. absurd (slot_open e o)) by (is.places w i)
      where
        by : HasColourOrSlot (located_register place w) → k ≡ w.origin
        by (in_colour n c h) = absurd (machine_slot h e)
        by (in_slot h) = same_slot e h

    named_before : (Named : MachOp → Type 0) → IsNamedIn Named q → IsNamedIn Named m
    named_before Named n =
        let w = was (placed_instr place) m.code n.instr n.among in
        record {
          instr = w.what;
          among = w.among;
          named = subst (λ (i : Instr). Named i.op) (sym w.same) n.named;
        }

    -- It does what it did, in slots of its own origins.
    pub placed_keeps : Keeps m (with_places place m)
    placed_keeps =
        record {
          name = refl;
          result = refl;
          does = does_placed m place formed well is;
          origins = λ r i loose.
              let w = was_register place m r i in
              record {
                register = w.register;
                among = w.among;
                loose = was_loose w.register r w.among w.same loose;
                same = origin_same w.register w.same;
              };
          slots = λ r k i s.
              let w = was_register place m r i in
              inr (slot_of w.register k w.among (loc_same w.register w.same ∙ s) ∙ origin_same w.register w.same);
          symbols = λ name n. named_before (NamesSymbol name) n;
          externals = λ row n. named_before (NamesExternal row) n;
          addrs = no_addr_before m place well is;
        }

    -- ---- each has a place

    open_or_placed : (r : Reg) → IsRegister q r → (r.loc ≡ loc.Unset) ⊎ HasColourOrSlot r
    open_or_placed r i =
        let w = was_register place m r i in
        ⊎_elim (λ o. inl (sym (loc_same w.register w.same) ∙ o)) (λ p. inr (subst HasColourOrSlot w.same p)) (is.places w.register w.among)

    same_colours : (rs : List Reg) → ((r : Reg) → Contains rs r → place r ≡ r.loc) →
        map (λ (r : Reg). r.loc) (all_placed place rs) ≡ map (λ (r : Reg). r.loc) rs
    same_colours [] h = refl
    same_colours (r ∷ rs) h =
        ap (λ l. l ∷ map (λ (r : Reg). r.loc) (all_placed place rs)) (h r (first_in r rs))
        ∙ ap (λ ls. r.loc ∷ ls) (same_colours rs (λ k c. h k (later_in r k rs c)))

    apart : (r k : Reg) → IsRegister q r → IsRegister q k → Joined q r.number k.number → r.loc ≢ loc.Unset → r.loc ≡ k.loc →
        MayShare r k
    apart r k i j joined fixed_one e =
        let w = was_register place m r i in
        let v = was_register place m k j in
        let before : Joined m (w.register).number (v.register).number =
        subst (λ a. Joined m a (v.register).number) (sym (number_same w.register w.same))
        (subst (λ b. Joined m r.number b) (sym (number_same v.register v.same)) (joined_before m place well is joined)) in
        subst (λ r. MayShare r k) w.same
        (subst (λ k. MayShare (located_register place w.register) k) v.same
        (is.apart w.register v.register w.among v.among before (λ o. fixed_one (sym (loc_same w.register w.same) ∙ o))
        (loc_same w.register w.same ∙ e ∙ sym (loc_same v.register v.same))))

    -- Joined registers with places are apart, where none is put at a colour that has a number below that of the register of the
    -- colour.
    pub placed_well : ((r k : Reg) → Contains m.colours r → IsRegister m k → place k ≡ r.loc → r.number ≤ k.number) →
        WellPlaced (with_places place m)
    placed_well least =
        record {
          colours = record {
            each = same_colours m.colours (colour_stays m place well is) ∙ (well.colours).each;
            least = λ r k c i e.
                let w = was (located_register place) m.colours r c in
                let v = was_register place m k i in
                subst (λ n. r.number ≤ n) (number_same v.register v.same)
                (subst (λ n. n ≤ (v.register).number) (number_same w.what w.same)
                (least w.what v.register w.among v.among
                (loc_same v.register v.same ∙ e ∙ sym (loc_same w.what w.same) ∙ colour_stays m place well is w.what w.among)));
          };
          agree = record { places = open_or_placed; apart = apart };
        }

    -- Then each register has a place, where none is left open.
    pub placed_fully : ((r : Reg) → IsRegister m r → HasColourOrSlot (located_register place r)) →
        ((r k : Reg) → Contains m.colours r → IsRegister m k → place k ≡ r.loc → r.number ≤ k.number) →
        FullyPlaced (with_places place m)
    placed_fully all least =
        record {
          well = placed_well least;
          places = λ r i. let w = was_register place m r i in subst HasColourOrSlot w.same (all w.register w.among);
        }

    -- ---- seats

    same_places : (rs : List Reg) (more : List Loc) → ((r : Reg) → Contains rs r → IsRegister m r) →
        AreRegisters (places_of rs ++ more) → places_of (all_placed place rs) ≡ places_of rs
    same_places [] more i h = refl
    same_places (r ∷ rs) more i h =
        let n = head_fixed h in
        ap (λ l. l ∷ places_of (all_placed place rs))
        (machine_stays m place well is r (i r (first_in r rs)) n.0 n.1 ∙ sym n.1)
        ∙ ap (λ ls. r.loc ∷ ls) (same_places rs more (λ k c. i k (later_in r k rs c)) (tail_fixed h))

    still_seated : (s : Seats) (rs : List Reg) → ((r : Reg) → Contains rs r → IsRegister m r) → FixedSeats s →
        AreSeated s (places_of rs) → AreSeated s (places_of (all_placed place rs))
    still_seated Anywhere rs i f h = anywhere
    still_seated (InOrder places) rs i (fixed_in_order f) (in_order more e) =
        in_order more (ap (λ ls. ls ++ more) (same_places rs more i (subst AreRegisters (sym e) f)) ∙ e)
    still_seated (AfterFirst places) [] i f h = elim h [ ]
    still_seated (AfterFirst places) (r ∷ rs) i (fixed_after_first f) (after_first more e) =
        after_first more
        (ap (λ ls. ls ++ more) (same_places rs more (λ k c. i k (later_in r k rs c)) (subst AreRegisters (sym e) f)) ∙ e)

    -- What the conventions put at fixed places is there.
    pub placed_seated : Seated m → Seated (with_places place m)
    placed_seated seated =
        record {
          params = still_seated (InOrder argument_locations) m.params (λ r c. is_param c) (fixed_in_order argument_registers) seated.params;
          operands = λ i c.
              let w = was (placed_instr place) m.code i c in
              subst (λ (i : Instr). AreSeated (mach_operand_seats i.op) (places_of i.args)) w.same
              (still_seated (mach_operand_seats (w.what).op) (w.what).args
              (λ r d. is_in_code (args_in_code m.code w.what r w.among d)) (fixed_operands (w.what).op)
              (seated.operands w.what w.among));
          results = λ i c.
              let w = was (placed_instr place) m.code i c in
              subst (λ (i : Instr). AreSeated (mach_result_seats i.op) (places_of i.results)) w.same
              (still_seated (mach_result_seats (w.what).op) (w.what).results
              (λ r d. is_in_code (results_in_code m.code w.what r w.among d)) (fixed_results (w.what).op)
              (seated.results w.what w.among));
        }

-- ---- slots

-- the origin of the register of this number among these, or else this number
abbrev find_origin : List Reg → ℕ → ℕ → ℕ
find_origin [] n other = other
find_origin (r ∷ rs) n other = cond (nat_eq r.number n) r.origin (find_origin rs n other)

abbrev find_in_code : List Instr → ℕ → ℕ → ℕ
find_in_code [] n other = other
find_in_code (i ∷ is) n other = find_origin i.args n (find_origin i.results n (find_in_code is n other))

-- registers of this number have this origin
abbrev HaveOrigin : (Reg → Type 0) → ℕ → ℕ → Type 0
HaveOrigin Is n o = (r : Reg) → Is r → r.number ≡ n → r.origin ≡ o

other_stays : (rs : List Reg) (n o other : ℕ) → HaveOrigin (Contains rs) n o → other ≡ o → find_origin rs n other ≡ o
other_stays [] n o other h e = e
other_stays (r ∷ rs) n o other h e =
    by (nat_eq r.number n) refl (other_stays rs n o other (λ k c. h k (later_in r k rs c)) e)
  where
    by : (b : Bool) → nat_eq r.number n ≡ b → find_origin rs n other ≡ o → cond b r.origin (find_origin rs n other) ≡ o
    by true s old = h r (first_in r rs) (eqb-true r.number n s)
    by false s old = old

found : (rs : List Reg) (n o other : ℕ) → HaveOrigin (Contains rs) n o → (r : Reg) → Contains rs r → r.number ≡ n →
    find_origin rs n other ≡ o
found [] n o other h r c e = absurd (none_in r c)
found (k ∷ rs) n o other h r c e =
    ⊎_elim
    (λ s.
    ap (λ b. cond b k.origin (find_origin rs n other)) (eq-eqb k.number n (ap (λ (r : Reg). r.number) s ∙ e))
    ∙ h k (first_in k rs) (ap (λ (r : Reg). r.number) s ∙ e))
    (λ d. by (nat_eq k.number n) refl (found rs n o other (λ j c. h j (later_in k j rs c)) r d e)) (in_cons k r rs c)
  where
    by : (b : Bool) → nat_eq k.number n ≡ b → find_origin rs n other ≡ o → cond b k.origin (find_origin rs n other) ≡ o
    by true s old = h k (first_in k rs) (eqb-true k.number n s)
    by false s old = old

found_in_code : (code : List Instr) (n o other : ℕ) → HaveOrigin (λ r. InCode r code) n o → {r : Reg} → InCode r code →
    r.number ≡ n → find_in_code code n other ≡ o
found_in_code [] n o other h c e = elim c [ ]
found_in_code (i ∷ is) n o other h {r} (in_args c) e =
    found i.args n o _ (λ k c. h k (in_args c)) r c e
found_in_code (i ∷ is) n o other h {r} (in_results c) e =
    other_stays i.args n o _ (λ k c. h k (in_args c)) (found i.results n o _ (λ k c. h k (in_results c)) r c e)
found_in_code (i ∷ is) n o other h (further c) e =
    other_stays i.args n o _ (λ k c. h k (in_args c))
    (other_stays i.results n o _ (λ k c. h k (in_results c))
    (found_in_code is n o other (λ k c. h k (further c)) c e))

-- the origin of the register of this number in a function
abbrev origin_of : Mach → ℕ → ℕ
origin_of m n = find_origin m.params n (find_origin m.colours n (find_in_code m.code n 0))

module _ (m : Mach) (well : WellFormed m) where
  origin_is : (r : Reg) → IsRegister m r → origin_of m r.number ≡ r.origin
  origin_is r i = by i
    where
      one : HaveOrigin (IsRegister m) r.number r.origin
      one = λ k j e. ap (λ (r : Reg). r.origin) (well.numbers k r j i e)

      by : IsRegister m r → origin_of m r.number ≡ r.origin
      by (is_param c) = found m.params r.number r.origin _ (λ k c. one k (is_param c)) r c refl
      by (is_colour c) =
          other_stays m.params r.number r.origin _ (λ k c. one k (is_param c))
          (found m.colours r.number r.origin _ (λ k c. one k (is_colour c)) r c refl)
      by (is_in_code c) =
          other_stays m.params r.number r.origin _ (λ k c. one k (is_param c))
          (other_stays m.colours r.number r.origin _ (λ k c. one k (is_colour c))
          (found_in_code m.code r.number r.origin 0 (λ k c. one k (is_in_code c)) c refl))

  -- There are at most as many new slots as there were registers with open places.
  pub placed_slots : (place : LocationAssignment) → IsProperAssignment m place → (k : ℕ) → OpenAtMost m k → SlotsGrow m (with_places place m) k
  placed_slots place is k few =
      record {
        others = map (origin_of m) few.numbers;
        few = subst (λ n. n ≤ k) (sym (length-map few.numbers (origin_of m))) few.few;
        all = λ slot s.
            let w = was_register place m s.register s.among in
            by w.register slot w.among (ap (λ (r : Reg). r.loc) w.same ∙ s.stands) (is.fixed w.register w.among)
            (is.places w.register w.among);
      }
    where
      of_origin : (w : Reg) (slot : ℕ) → place w ≡ loc.Slot slot → HasColourOrSlot (located_register place w) → w.origin ≡ slot
      of_origin w slot e (in_colour n c h) = absurd (machine_slot h e)
      of_origin w slot e (in_slot h) = same_slot h e

      by : (w : Reg) (slot : ℕ) → IsRegister m w → place w ≡ loc.Slot slot → (w.loc ≡ loc.Unset) ⊎ (place w ≡ w.loc) →
          (place w ≡ loc.Unset) ⊎ HasColourOrSlot (located_register place w) → IsSlot m slot ⊎ Contains (map (origin_of m) few.numbers) slot
      by w slot i e (inl o) p =
          inr
          (subst (Contains (map (origin_of m) few.numbers))
          (origin_is w i ∙ ⊎_elim (λ u. absurd (slot_open e u)) (λ h. of_origin w slot e h) p)
          (mapped (origin_of m) few.numbers w.number (few.all w i o)))
      by w slot i e (inr h) p = inl (record { register = w; among = i; stands = sym h ∙ e })
