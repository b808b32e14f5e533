-- Which registers of a function meet: what comes from its parameters and from each instruction.
use Rattle.std.proofs.Common.{◌≡◌, ◌↔◌, ℕ, suc, ◌+◌, ◌<◌, ◌≤◌, Bool, true, false, cond, ◌&&◌, nat_eq, ◌⊎◌, inl, inr}
use Rattle.std.proofs.Common.{⊎_elim, List, [], ◌∷◌, None, length, drop, get_or, refl, sym, ap, ◌∙◌, subst, arith}
use Rattle.std.specs.List.{All, Contains}
use Rattle.std.specs.Prelude.{Option}
use Rattle.std.proofs.lemmas.Bool.{cases_lt, eq-eqb, eqb-true}
use Rattle.std.proofs.lemmas.List.Elements.{Contains-get_or, Contains-append_cases}
use Rattle.bs_bits.specs.Set.{has}
use Rattle.dataflow.specs.Rows.{set_in_row}
use Rattle.mach_ir.specs.Graph.{IsLiveMap}
use Rattle.mach_ir.specs.Graph as graph
use Rattle.mach_ir.specs.Meaning.{code_at, killed, registers_written}
use Rattle.mach_ir.specs.Walks.{AmongRegisters, targets, goes, raises, Writes, Live}
use Rattle.mach_ir.specs.Walks.{read, on, aside, LiveAfter, after_step, InCode, in_args, in_results, further}
use Rattle.mach_ir.specs.Walks.{IsRegister, is_colour, is_in_code, StandsAsInstr, here, below, IsMove, is_move}
use Rattle.mach_ir.specs.Walks.{Meets, at_write, at_params, Joined}
use Rattle.mach_ir.specs.Walks as walks
use Rattle.mach_ir.specs.declared.graph.LiveMap.{LiveMap}
use Rattle.mach_ir.specs.declared.op.CopyKind.TheVariants as copy
use Rattle.mach_ir.specs.declared.op.Pure.TheVariants as pure
use Rattle.mach_ir.specs.declared.op.Op.TheVariants as op
use Rattle.mach_ir.specs.declared.reg.Reg.{Reg}
use Rattle.mach_ir.specs.declared.mach.Instr.{Instr}
use Rattle.mach_ir.specs.declared.mach.MachOp.{MachOp}
use Rattle.mach_ir.specs.declared.mach.MachOp.TheVariants as mach
use Rattle.mach_ir.specs.declared.mach.Mach.{Mach}
use Rattle.mach_laws.specs.Expand.{Ending, all, more}
use Rattle.mach_laws.specs.Graph.{code_index, numbers_of_registers, next_places}
use Rattle.mach_laws.proofs.Places.{ending_from_handler, stands_of}
use Rattle.mach_laws.proofs.Among.{among_of, number_among}
use Rattle.mach_laws.proofs.Walking.{among_numbers, in_numbers, place_is, ending_at, ending_drop, ending_place, target_of, in_targets}
use Rattle.liveness.proofs.Bounds.{killed_is_colour}
use Rattle.bs_words.proofs.Lists.{drop_none}
use Rattle.interfere.specs.Moves.{move_between, move_of, is_move_from_to}
use Rattle.interfere.specs.Pairs.{Table, Has, EitherWay, one_way, other_way, AddsPairs, ForOne, MeetsSet, MeetsPlaces}
use Rattle.interfere.specs.declared.moves.Move.{Move}
use Rattle.interfere.proofs.Pairs.{either_map}

-- ---- moves

from_to_is : (a b from to : ℕ) → (nat_eq a from && nat_eq b to) ≡ true → (a ≡ from) × (b ≡ to)
from_to_is a b from to e = by (nat_eq a from) (nat_eq b to) (λ h. eqb-true a from h) (λ h. eqb-true b to h) e
  where
    by : (x y : Bool) → (x ≡ true → a ≡ from) → (y ≡ true → b ≡ to) → (x && y) ≡ true → (a ≡ from) × (b ≡ to)
    by true true f g e = (f refl, g refl)
    by true false f g e = absurd (cc)
    by false y f g e = absurd (cc)

is_from_to_of : (a b from to : ℕ) → a ≡ from → b ≡ to → (nat_eq a from && nat_eq b to) ≡ true
is_from_to_of a b from to e h =
    let f : nat_eq a from ≡ true = eq-eqb a from e in
    let g : nat_eq b to ≡ true = eq-eqb b to h in
    ap (λ x. x && nat_eq b to) f ∙ g

pub move_told : {k n : ℕ} {i : Instr} → IsMove k n i → is_move_from_to (move_of i) k n ≡ true
move_told {k} {n} (is_move {r = r} {q = q} e h) = is_from_to_of r.number q.number k n e h

move_op : (f : MachOp) → graph.is_move f ≡ true → mach.Op (op.Pure (pure.Copy copy.Move)) ≡ f
move_op (mach.Op (op.Pure (pure.Copy copy.Move))) e = refl
move_op (mach.Op (op.Pure (pure.Copy copy.Spill))) e = absurd (cc)
move_op (mach.Op (op.Pure (pure.Copy copy.Reload))) e = absurd (cc)
move_op (mach.Op (op.Pure (pure.Constant w))) e = absurd (cc)
move_op (mach.Op (op.Pure (pure.Symbol name))) e = absurd (cc)
move_op (mach.Op (op.Pure (pure.Operator f r))) e = absurd (cc)
move_op (mach.Op (op.Access f)) e = absurd (cc)
move_op (mach.Op (op.Calling f)) e = absurd (cc)
move_op (mach.Op (op.Leaving f)) e = absurd (cc)
move_op (mach.Mark f) e = absurd (cc)

between_move : (args results : List Reg) (k n : ℕ) → is_move_from_to (move_between args results) k n ≡ true →
    IsMove k n (record { op = mach.Op (op.Pure (pure.Copy copy.Move)); args = args; results = results })
between_move (r ∷ []) (q ∷ []) k n e = let h = from_to_is r.number q.number k n e in is_move h.0 h.1
between_move [] results k n e = absurd (cc)
between_move (r ∷ []) [] k n e = absurd (cc)
between_move (r ∷ []) (q ∷ x ∷ xs) k n e = absurd (cc)
between_move (r ∷ x ∷ xs) results k n e = absurd (cc)

is_told : (f : MachOp) (args results : List Reg) (k n : ℕ) →
    is_move_from_to (move_of (record { op = f; args = args; results = results })) k n ≡ true →
    IsMove k n (record { op = f; args = args; results = results })
is_told f args results k n e = by (graph.is_move f) refl e
  where
    by : (b : Bool) → graph.is_move f ≡ b → is_move_from_to (cond b (move_between args results) None) k n ≡ true →
        IsMove k n (record { op = f; args = args; results = results })
    by true h e =
        subst (λ f. IsMove k n (record { op = f; args = args; results = results })) (move_op f h) (between_move args results k n e)
    by false h e = absurd (cc)

pub told_move : (i : Instr) (k n : ℕ) → is_move_from_to (move_of i) k n ≡ true → IsMove k n i
told_move i k n e = is_told i.op i.args i.results k n e

no_move_told : (i : Instr) (k n : ℕ) → (IsMove k n i → ⊥) → is_move_from_to (move_of i) k n ≡ false
no_move_told i k n none = by (is_move_from_to (move_of i) k n) refl
  where
    by : (b : Bool) → is_move_from_to (move_of i) k n ≡ b → is_move_from_to (move_of i) k n ≡ false
    by false e = e
    by true e = absurd (none (told_move i k n e))

told_no_move : (i : Instr) (k n : ℕ) → is_move_from_to (move_of i) k n ≡ false → IsMove k n i → ⊥
told_no_move i k n e move = let h = move_told move in absurd (cc)

-- ---- places

-- the place of an instruction that is in a code
stands_at : {i : Instr} {next code : List Instr} → StandsAsInstr i next code → (p : ℕ) × (p < length code) × (drop p code ≡ i ∷ next)
stands_at here = (0, omega arith, refl)
stands_at (below s) = let p = stands_at s in let lt = p.1 in (suc p.0, omega (arith, lt), p.2)

pub in_ending : {rest code : List Instr} {r : Reg} → Ending rest code → InCode r rest → InCode r code
in_ending all c = c
in_ending (more e) c = further (in_ending e c)

module _ (m : Mach) where
  -- ---- numbers of registers

  module _ (bound : ℕ) (above : (r : Reg) → IsRegister m r → r.number < bound) where
    among_below : {n : ℕ} {rs : List Reg} → ((r : Reg) → Contains rs r → IsRegister m r) → AmongRegisters n rs → n < bound
    among_below {rs = rs} are a = let r = number_among rs a in subst (λ n. n < bound) r.2 (above r.0 (are r.0 r.1))

    live_register : {n : ℕ} {rest : List Instr} → Live m n rest → Ending rest m.code → n < bound
    live_register (read a) e = among_below (λ r c. is_in_code (in_ending e (in_args c))) a
    live_register (on w (goes t o) l) e = live_register l (ending_at t e)
    live_register (aside (raises {l = l} b t) live) e = live_register live (ending_from_handler l m.code)

    -- what is live anywhere is a register of the function
    pub live_below : (live : LiveMap) → IsLiveMap m live → (p k : ℕ) → has (set_in_row live.before.rows.items p) k ≡ true → k < bound
    live_below live is p k h = live_register ((is.exact p k).0 h) (ending_drop p m.code)

    pub writes_below : (p : ℕ) (i : Instr) (next : List Instr) (writes : List ℕ) → drop p m.code ≡ i ∷ next →
        writes ≡ numbers_of_registers (registers_written m i) → All (λ n. n < bound) writes
    writes_below p i next writes e same = λ j d lt.
        let n = get_or writes j d in
        among_below (λ r c. by r (Contains-append_cases i.results (killed m i) r c))
        (among_numbers n (registers_written m i) (subst (λ ns. Contains ns n) same (Contains-get_or writes j d lt)))
      where
        by : (r : Reg) → Contains i.results r ⊎ Contains (killed m i) r → IsRegister m r
        by r (inl c) = is_in_code (in_ending (ending_place m p e) (in_results c))
        by r (inr c) = is_colour (killed_is_colour m i r c)

  -- ---- one instruction

  -- the first is written by an instruction, and the other is live after it
  pub record MeetHere (i : Instr) (next : List Instr) (n k : ℕ) : Type 0 where
    pub write : Writes m i n
    pub after : LiveAfter m k i next
    pub no_move : IsMove k n i → ⊥

  module _ (live : LiveMap) (is : IsLiveMap m live) where
    abbrev rows : Table
    rows = live.before.rows.items

    live_at : (k q : ℕ) (rest : List Instr) → Ending rest m.code → code_index m rest ≡ q → has (set_in_row rows q) k ≡ true → Live m k rest
    live_at k q rest e same h =
        subst (Live m k) (place_is m e)
        ((is.exact (code_index m rest) k).0 (subst (λ q. has (set_in_row rows q) k ≡ true) (sym same) h))

    at_live : (k : ℕ) (rest : List Instr) → Ending rest m.code → Live m k rest → has (set_in_row rows (code_index m rest)) k ≡ true
    at_live k rest e l = (is.exact (code_index m rest) k).1 (subst (Live m k) (sym (place_is m e)) l)

    module _ (p : ℕ) (i : Instr) (next : List Instr) (at : drop p m.code ≡ i ∷ next) where
      meet_here : (n k : ℕ) → MeetsPlaces (move_of i) rows (numbers_of_registers (registers_written m i)) (next_places m (i ∷ next)) n k → MeetHere i next n k
      meet_here n k h =
          let t = target_of m next (targets i.op) h.item h.among in
          let by = h.there in
          let meets = by.there in
          record {
            write = among_numbers n (registers_written m i) (subst (Contains (numbers_of_registers (registers_written m i))) meets.written by.among);
            after = after_step (goes t.0 t.1)
                (live_at k h.item (code_at m.code next t.0) (ending_at t.0 (ending_place m p at)) t.2 meets.live);
            no_move = told_no_move i k n meets.no_move;
          }

      here_meet : (n k : ℕ) → MeetHere i next n k → MeetsPlaces (move_of i) rows (numbers_of_registers (registers_written m i)) (next_places m (i ∷ next)) n k
      here_meet n k h = by h.after
        where
          by : LiveAfter m k i next → MeetsPlaces (move_of i) rows (numbers_of_registers (registers_written m i)) (next_places m (i ∷ next)) n k
          by (after_step (goes t o) l) =
              record {
                item = code_index m (code_at m.code next t);
                among = in_targets m next o;
                there = record {
                  item = n;
                  among = in_numbers h.write;
                  there = record {
                    written = refl;
                    live = at_live k (code_at m.code next t) (ending_at t (ending_place m p at)) l;
                    no_move = no_move_told i k n h.no_move;
                  };
                };
              }

  -- ---- the instructions so far

  -- the first is written at the entry, or by one of so many instructions, and the other is live then
  pub data MeetsSoFar (p : ℕ) (n k : ℕ) : Type 0 where
    by_entry : AmongRegisters n m.params → Live m k m.code → MeetsSoFar p n k
    by_instr : (q : ℕ) (i : Instr) (next : List Instr) → q < p → drop q m.code ≡ i ∷ next → MeetHere i next n k → MeetsSoFar p n k

  -- the table has exactly what comes from the parameters and from so many instructions
  pub record HasJoined (size p : ℕ) (t : Table) : Type 0 where
    pub len : length t ≡ size
    pub sound : (n k : ℕ) → Has t n k → EitherWay (MeetsSoFar p) n k
    pub whole : (n k : ℕ) → EitherWay (MeetsSoFar p) n k → Has t n k

  pub joined_begun : (size : ℕ) (live : LiveMap) (set : List Bool) (empty t : Table) → IsLiveMap m live → set ≡ set_in_row live.before.rows.items 0 →
      length empty ≡ size → ((n k : ℕ) → has (set_in_row empty n) k ≡ false) →
      AddsPairs empty t (ForOne (λ (r : Reg). MeetsSet None set r.number) m.params) → HasJoined size 0 t
  joined_begun size live set empty t is same len none h =
      record {
        len = h.len ∙ len;
        sound = λ n k g. ⊎_elim (λ o. let f = none n k in absurd (cc)) (λ e. either_map to n k e) (h.sound n k g);
        whole = λ n k e. h.whole n k (either_map from n k e);
      }
    where
      to : (n k : ℕ) → ForOne (λ (r : Reg). MeetsSet None set r.number) m.params n k → MeetsSoFar 0 n k
      to n k g =
          let t = g.there in
          by_entry (subst (λ n. AmongRegisters n m.params) t.written (among_of g.item m.params g.among))
          (subst (Live m k) (drop_none m.code) ((is.exact 0 k).0 (subst (λ s. has s k ≡ true) same t.live)))

      from : (n k : ℕ) → MeetsSoFar 0 n k → ForOne (λ (r : Reg). MeetsSet None set r.number) m.params n k
      from n k (by_entry a l) =
          let r = number_among m.params a in
          record {
            item = r.0;
            among = r.1;
            there = record {
              written = r.2;
              live = subst (λ s. has s k ≡ true) (sym same) ((is.exact 0 k).1 (subst (Live m k) (sym (drop_none m.code)) l));
              no_move = refl;
            };
          }
      from n k (by_instr q i next lt e h) = absurd (omega (arith, lt))

  pub joined_more : (size p : ℕ) (i : Instr) (next : List Instr) (live : LiveMap) (writes places : List ℕ) (moved : Option Move)
      (old new : Table) → IsLiveMap m live → drop p m.code ≡ i ∷ next → writes ≡ numbers_of_registers (registers_written m i) →
      places ≡ next_places m (i ∷ next) → moved ≡ move_of i → HasJoined size p old →
      AddsPairs old new (MeetsPlaces moved live.before.rows.items writes places) → HasJoined size (p + 1) new
  joined_more size p i next live writes places moved old new is at w g e before h =
      record {
        len = made.len ∙ before.len;
        sound = λ n k s. ⊎_elim (λ o. either_map longer n k (before.sound n k o)) (λ d. either_map now n k d) (made.sound n k s);
        whole = λ n k s. by n k s;
      }
    where
      made : AddsPairs old new (MeetsPlaces (move_of i) live.before.rows.items (numbers_of_registers (registers_written m i)) (next_places m (i ∷ next)))
      made =
          subst (λ x. AddsPairs old new (MeetsPlaces x live.before.rows.items (numbers_of_registers (registers_written m i)) (next_places m (i ∷ next)))) e
          (subst (λ ns. AddsPairs old new (MeetsPlaces moved live.before.rows.items ns (next_places m (i ∷ next)))) w
          (subst (λ ps. AddsPairs old new (MeetsPlaces moved live.before.rows.items writes ps)) g h))

      longer : (n k : ℕ) → MeetsSoFar p n k → MeetsSoFar (p + 1) n k
      longer n k (by_entry a l) = by_entry a l
      longer n k (by_instr q j others lt f d) = by_instr q j others (omega (arith, lt)) f d

      now : (n k : ℕ) → MeetsPlaces (move_of i) live.before.rows.items (numbers_of_registers (registers_written m i)) (next_places m (i ∷ next)) n k → MeetsSoFar (p + 1) n k
      now n k d = by_instr p i next (omega arith) at (meet_here live is p i next at n k d)

      Here : ℕ → ℕ → Type 0
      Here n k = MeetsPlaces (move_of i) live.before.rows.items (numbers_of_registers (registers_written m i)) (next_places m (i ∷ next)) n k

      split : (n k : ℕ) → MeetsSoFar (p + 1) n k → MeetsSoFar p n k ⊎ Here n k
      split n k (by_entry a l) = inl (by_entry a l)
      split n k (by_instr q j others lt f d) =
          ⊎_elim (λ l. inl (by_instr q j others l f d))
          (λ l.
          let s : p ≡ q = omega (arith, lt, l) in
          let c : j ∷ others ≡ i ∷ next = sym f ∙ ap (λ p. drop p m.code) (sym s) ∙ at in
          inr (here_meet live is p i next at n k (moved_to c d)))
          (cases_lt q p)
        where
          moved_to : j ∷ others ≡ i ∷ next → MeetHere j others n k → MeetHere i next n k
          moved_to c d = subst (λ xs. MeetHere i xs n k) (tails c) (subst (λ j. MeetHere j others n k) (heads c) d)
            where
              heads : j ∷ others ≡ i ∷ next → j ≡ i
              heads c = cc

              tails : j ∷ others ≡ i ∷ next → others ≡ next
              tails c = cc

      by : (n k : ℕ) → EitherWay (MeetsSoFar (p + 1)) n k → Has new n k
      by n k (one_way ne h) = ⊎_elim (λ o. made.kept n k (before.whole n k (one_way ne o))) (λ d. made.whole n k (one_way ne d)) (split n k h)
      by n k (other_way ne h) = ⊎_elim (λ o. made.kept n k (before.whole n k (other_way ne o))) (λ d. made.whole n k (other_way ne d)) (split k n h)

  -- all instructions are done
  pub joined_all : (size p : ℕ) (t : Table) → length m.code ≤ p → HasJoined size p t → (n k : ℕ) → Has t n k ↔ Joined m n k
  joined_all size p t le made n k = (λ h. to (made.sound n k h), λ j. made.whole n k (from j))
    where
      meets : (n k : ℕ) → MeetsSoFar p n k → Meets m n k
      meets n k (by_entry a l) = at_params a l
      meets n k (by_instr q i next lt e h) = at_write i next (stands_of (ending_place m q e)) h.write h.after h.no_move

      met : (n k : ℕ) → Meets m n k → MeetsSoFar p n k
      met n k (at_write i next s w l none) =
          let q = stands_at s in
          let lt = q.1 in
          by_instr q.0 i next (omega (arith, lt, le)) q.2 (record { write = w; after = l; no_move = none })
      met n k (at_params a l) = by_entry a l

      to : EitherWay (MeetsSoFar p) n k → Joined m n k
      to (one_way ne h) = walks.one_way ne (meets n k h)
      to (other_way ne h) = walks.other_way ne (meets k n h)

      from : Joined m n k → EitherWay (MeetsSoFar p) n k
      from (walks.one_way ne h) = one_way ne (met n k h)
      from (walks.other_way ne h) = other_way ne (met k n h)
