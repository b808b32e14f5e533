-- What the tables choose is what is sunk.
use Rattle.std.proofs.Common.{◌≡◌, ℕ, zero, suc, ◌+◌, ◌-◌, ◌<◌, ◌≤◌, Bool, true, false, ◌||◌, ⊎_elim, List, [], ◌∷◌, Some, None, map, length, drop, replicate, refl, sym, ap, ◌∙◌, subst, arith}
use Rattle.std.proofs.lemmas.Bool.{cases_Bool}
use Rattle.std.specs.List.{Contains}
use Rattle.std.specs.Prelude.{Option, slice_get, slice_index_or}
use Rattle.bs_bits.specs.Set.{has}
use Rattle.bs_words.specs.Contents.{contents}
use Rattle.bs_words.proofs.Lists.{none_in, tail_same}
use Rattle.dataflow.specs.Flow.{IsBare}
use Rattle.dataflow.specs.Flow as flows
use Rattle.dataflow.specs.Rows.{set_in_row}
use Rattle.dataflow.specs.declared.flow.Flow as flow
use Rattle.dataflow.specs.declared.flow.Place as place
use Rattle.mach_ir.specs.Acts.{On}
use Rattle.mach_ir.specs.Formed.{WellFormed}
use Rattle.mach_ir.specs.Graph.{IsLiveMap}
use Rattle.mach_ir.specs.Meaning.{Everything, destroyed_by, registers_written, code_at}
use Rattle.mach_ir.specs.Walks.{AmongRegisters, OneOf, targets, goes, WalkStep, Live, Writes, StandsAsInstr, is_in_code}
use Rattle.mach_ir.specs.Walks as walks
use Rattle.mach_ir.specs.declared.graph.LiveMap.{LiveMap}
use Rattle.mach_ir.specs.declared.op.Op.{Op}
use Rattle.mach_ir.specs.declared.reg.Reg.{Reg}
use Rattle.mach_ir.specs.declared.mach.Instr.{Instr}
use Rattle.mach_ir.specs.declared.mach.Mach.{Mach}
use Rattle.mach_ir.specs.declared.mach.MachOp.{MachOp}
use Rattle.mach_ir.specs.declared.mach.MachOp.TheVariants as mach
use Rattle.mach_laws.specs.Graph.{code_index, numbers_of_registers, next_places, raise_places, IsFlowOf}
use Rattle.mach_laws.proofs.Places.{ending_next, stands_of, ending_of, is_unset}
use Rattle.mach_laws.proofs.Walking.{place_is, among_numbers, in_numbers, place_back, place_within, ending_place}
use Rattle.spill_rules.specs.Chosen.{LivesOver, lives}
use Rattle.sink_rules.specs.Chosen.{IsSunkAt}
use Rattle.sink_rules.specs.Walks.{Fresh, Stale}
use Rattle.sink.specs.Chosen.{is_call, some_call, has_call, move_at, all_moves, IsSinkingMove, AreMoves}
use Rattle.sink.specs.Mixed.{noted_code}
use Rattle.sink.specs.Graphs.{destroys_colours, IsOver, IsFreshNode}
use Rattle.sink.specs.Registers.{entered_code}
use Rattle.sink.specs.Sights.{noted_places}
use Rattle.sink.specs.Tables.{IsSolved}
use Rattle.sink.specs.declared.chosen.Move.{Move}
use Rattle.sink.specs.declared.sights.Sight.{Sight}
use Rattle.sink.specs.declared.sights.Sight.TheVariants.{Unseen, Once, Often}
use Rattle.sink.specs.declared.solved.Solved.{Solved}
use Rattle.sink.proofs.Entered.{is_entered, length_table, is_live_entered}
use Rattle.sink.proofs.Graph.{Where, inner, final, beyond, where_is, at, none_past, of}
use Rattle.sink.proofs.Held.{held_destroys, held_on, held_of}
use Rattle.sink.proofs.Mixing.{IsMixedIn, is_mixed_in, mixed_is_in}
use Rattle.sink.proofs.Running.{get_there, run_to, begin_of, begins_there, run_starts}
use Rattle.sink.proofs.Moving.{Moved, moved, moves_at, in_moves, moves_in, moves_rise, pairs_none}
use Rattle.sink.proofs.Nodes.{at_last}
use Rattle.sink.proofs.Seeing.{Sees, unseen, once, often, same_sees, InPlaces, all_seen, length_places}
use Rattle.liveness.proofs.Steps.{destroys_on, live_small}
use Rattle.mach_ir.specs.Places.{is_unset_location}
use Rattle.bs_words.proofs.Truths.{not_both}

-- ---- sights

length_unseen : (size : ℕ) → length (replicate {A = Sight} size Unseen) ≡ size
length_unseen zero = refl
length_unseen (suc size) = ap suc (length_unseen size)

unseen_once : (p : ℕ) → Unseen ≡ Once p → ⊥
unseen_once p e = cc

often_once : (p : ℕ) → Often ≡ Once p → ⊥
often_once p e = cc

once_same : (q p : ℕ) → Once q ≡ Once p → q ≡ p
once_same q p e = cc

call_is : (f : MachOp) → is_call f ≡ true → (g : Op) × (f ≡ mach.Op g)
call_is (mach.Op g) e = (g, refl)
call_is (mach.Mark g) e = absurd (not_both false e refl)

is_a_call : (f : MachOp) (g : Op) → f ≡ mach.Op g → destroys_colours f ≡ true → is_call f ≡ true
is_a_call (mach.Op g) h e destroys_colours = destroys_colours
is_a_call (mach.Mark g) h e destroys_colours = absurd (bad e)
  where
    bad : mach.Mark g ≡ mach.Op h → ⊥
    bad e = cc

module _ (m : Mach) (formed : WellFormed m) (live : LiveMap) (exact : IsLiveMap m live) (bound : ℕ) (s : Solved) (is : IsSolved m live bound s) where
  abbrev rows : List (List Bool)
  rows = live.before.rows.items

  abbrev E : place.Place → Type 0
  E = IsBare

  abbrev N : Instr → List Instr → place.Place → Type 0
  N = IsFreshNode m rows

  next_of : (i : Instr) (next : List Instr) (x : place.Place) → N i next x → contents x.next ≡ next_places m (i ∷ next)
  next_of i next x h = h.next_is

  aside_of : (i : Instr) (next : List Instr) (x : place.Place) → N i next x → contents x.aside ≡ raise_places m (i ∷ next)
  aside_of i next x h = h.aside

  abbrev f : flow.Flow
  f = s.graph

  -- a number lives over the instruction at a place, and is fresh there
  record IsSeen (n q : ℕ) : Type 0 where
    instr : Instr
    next : List Instr
    is_at : drop q m.code ≡ instr ∷ next
    here : q < length m.code
    is_held : destroys_colours instr.op ≡ true
    over : LivesOver m n instr next next
    fresh : Fresh m n (instr ∷ next)

  within : (q : ℕ) → q < length m.code → q ≤ length m.code
  within q lt = omega (arith, lt)

  plain : (q i : ℕ) → q ≡ 0 + i → q ≡ i
  plain q i e = omega (arith, e)

  seen_at : (n q : ℕ) → Where (length m.code) q → Contains (slice_index_or (map (λ x. contents x.writes) (contents f.places)) q []) n →
      has (set_in_row s.fresh.rows.items q) n ≡ true → IsSeen n q
  seen_at n q (inner lt) c h =
      let a = at m E N next_of aside_of f is.nodes q lt in
      let i = a.instr in
      let next = a.next in
      let ending = ending_place m q a.is in
      let x = ((a.is_node).writes n).0 (subst (λ xs. Contains xs n) (a.part (λ x. contents x.writes)) c) in
      let w : Writes m i n → ⊥ = λ z. (x.1).other (in_numbers z) in
      let leads : WalkStep m i next next = goes On (held_on i.op x.0) in
      let after : Live m n next = subst (Live m n) (place_is m (ending_next ending)) ((exact.exact (code_index m next) n).0 (x.1).live) in
      record {
        instr = i;
        next = next;
        is_at = a.is;
        here = lt;
        is_held = x.0;
        over = lives (stands_of ending) (held_destroys i.op x.0) w leads after;
        fresh = subst (Fresh m n) a.is
            (((is.fresh).exact q n (within q lt) (subst (Live m n) (sym a.is) (walks.on w leads after))).0 h);
      }
  seen_at n q (final e) c h =
      let last = at_last E N is.nodes in
      absurd
      (none_in n
      (subst (λ xs. Contains xs n)
      (ap (λ q. slice_index_or (map (λ x. contents x.writes) (contents f.places)) q []) e ∙ last.part (λ x. contents x.writes)
      ∙ (last.is_end).writes) c))
  seen_at n q (beyond lt) c h = absurd (none_past m E N next_of aside_of f is.nodes (λ x. contents x.writes) q n lt c)

  to_seen : (n q : ℕ) → InPlaces s.fresh.rows.items 0 (contents f.places) n q → IsSeen n q
  to_seen n q x =
      seen_at n q (where_is (length m.code) q)
      (subst (λ i. Contains (slice_index_or (map (λ x. contents x.writes) (contents f.places)) i []) n) (sym (plain q x.index x.is)) x.killed)
      x.fresh

  -- what lives over an instruction is live before it, and after
  record Lives (n : ℕ) (i : Instr) (next to : List Instr) : Type 0 where
    stands : StandsAsInstr i next m.code
    destroys : destroyed_by i.op ≡ Everything
    unwritten : Writes m i n → ⊥
    is_held : destroys_colours i.op ≡ true
    before : Live m n (i ∷ next)
    after : Live m n next
    whole : LivesOver m n i next next

  lives_of : {n : ℕ} {i : Instr} {next to : List Instr} → LivesOver m n i next to → Lives n i next to
  lives_of {n} {i} {next} (lives st d w (goes t o) v) =
      let e = destroys_on i.op t d o in
      let after = subst (λ t. Live m n (code_at m.code next t)) e v in
      let on : OneOf On (targets i.op) = subst (λ t. OneOf t (targets i.op)) e o in
      record {
        stands = st;
        destroys = d;
        unwritten = w;
        is_held = held_of i.op t d o;
        before = walks.on w (goes On on) after;
        after = after;
        whole = lives st d w (goes On on) after;
      }

  from_seen : {n : ℕ} {i : Instr} {next to : List Instr} → LivesOver m n i next to → Fresh m n (i ∷ next) →
      InPlaces s.fresh.rows.items 0 (contents f.places) n (code_index m (i ∷ next))
  from_seen {n} {i} {next} o fr =
      let l = lives_of o in
      let ending = ending_of l.stands in
      let x = of m E N next_of aside_of f is.nodes ending in
      let made : IsOver rows (code_index m next) i.op (numbers_of_registers (registers_written m i)) n = (
        l.is_held,
        record {
          live = (exact.exact (code_index m next) n).1 (subst (Live m n) (sym (place_is m (ending_next ending))) l.after);
          other = λ c. l.unwritten (among_numbers n (registers_written m i) c);
        },
      ) in
      record {
        index = code_index m (i ∷ next);
        is = same (code_index m (i ∷ next));
        killed = subst (λ q. Contains (slice_index_or (map (λ x. contents x.writes) (contents f.places)) q []) n) x.number_is
            (subst (λ xs. Contains xs n) (sym (x.part (λ x. contents x.writes))) (((x.is_node).writes n).1 made));
        fresh = ((is.fresh).exact (code_index m (i ∷ next)) n (place_within m (i ∷ next))
            (subst (Live m n) (sym (place_is m ending)) l.before)).1 (subst (Fresh m n) (sym (place_is m ending)) fr);
      }
    where
      same : (q : ℕ) → q ≡ 0 + q
      same q = omega arith

  -- ---- the tables

  abbrev registers : List (Option Reg)
  registers = entered_code m.code (replicate bound None)

  abbrev table : List Sight
  table = noted_places s.fresh.rows.items 0 (contents f.places) (replicate s.graph.bound Unseen)

  abbrev mixed : List Bool
  mixed = noted_code s.fresh.rows.items s.stale.rows.items 0 m.code (replicate bound false)

  abbrev moves : List Move
  moves = all_moves m.code s.stale.rows.items mixed registers table

  unique : (r q : Reg) → walks.InCode r m.code → walks.InCode q m.code → r.number ≡ q.number → r ≡ q
  unique r q a b e = formed.numbers r q (is_in_code a) (is_in_code b) e

  sees : (n : ℕ) → n < length table → Sees (IsSeen n) (slice_index_or table n Unseen)
  sees n lt =
      same_sees (InPlaces s.fresh.rows.items 0 (contents f.places) n) (IsSeen n)
      (λ q x. back q x)
      (to_seen n) (all_seen s.fresh.rows.items (contents f.places) s.graph.bound n lt)
    where
      back : (q : ℕ) → IsSeen n q → InPlaces s.fresh.rows.items 0 (contents f.places) n q
      back q x =
          subst (InPlaces s.fresh.rows.items 0 (contents f.places) n) (place_back m q (x.instr ∷ x.next) (within q x.here) x.is_at)
          (from_seen x.over x.fresh)

  -- one alone
  seen_once : {n p : ℕ} {s : Sight} → s ≡ Once p → Sees (IsSeen n) s → IsSeen n p × ((q : ℕ) → IsSeen n q → q ≡ p)
  seen_once {n} {p} e (unseen none) = absurd (unseen_once p e)
  seen_once {n} {p} e (once q h only) =
      let same : q ≡ p = once_same q p e in (subst (IsSeen n) same h, λ k x. only k x ∙ same)
  seen_once {n} {p} e (often a b x y apart) = absurd (often_once p e)

  once_seen : {n p : ℕ} {s : Sight} → Sees (IsSeen n) s → IsSeen n p → ((q : ℕ) → IsSeen n q → q ≡ p) → s ≡ Once p
  once_seen {p = p} (unseen none) h only = absurd (none p h)
  once_seen (once q x others) h only = ap Once (only q x)
  once_seen (often a b x y apart) h only = absurd (apart (only a x ∙ sym (only b y)))

  -- ---- mixed reads

  abbrev MixedReads : ℕ → Type 0
  MixedReads n = IsMixedIn s.fresh.rows.items s.stale.rows.items 0 m.code n

  -- a read is at its place, where the register is live
  live_read : {n : ℕ} {i : Instr} {next : List Instr} (p : ℕ) → drop p m.code ≡ i ∷ next → AmongRegisters n i.args → Live m n (drop p m.code)
  live_read p e a = subst (Live m _) (sym e) (walks.read a)

  mixed_read : (n : ℕ) (j : Instr) (others : List Instr) → StandsAsInstr j others m.code → AmongRegisters n j.args → Fresh m n (j ∷ others) →
      Stale m n (j ∷ others) → MixedReads n
  mixed_read n j others st a fr old =
      let p = code_index m (j ∷ others) in
      let e = place_is m (ending_of st) in
      let v = live_read p e a in
      record {
        index = p;
        instr = j;
        next = others;
        is = e;
        reads = a;
        fresh_there = ap (λ q. has (set_in_row s.fresh.rows.items q) n) (sym (same p))
            ∙ ((is.fresh).exact p n (place_within m (j ∷ others)) v).1 (subst (Fresh m n) (sym e) fr);
        stale_there = ap (λ q. has (set_in_row s.stale.rows.items q) n) (sym (same p))
            ∙ ((is.stale).exact p n (place_within m (j ∷ others)) v).1 (subst (Stale m n) (sym e) old);
      }
    where
      same : (q : ℕ) → q ≡ 0 + q
      same q = omega arith

  read_mixed : (n : ℕ) → MixedReads n →
      (j : Instr) × (others : List Instr) × StandsAsInstr j others m.code × AmongRegisters n j.args × Fresh m n (j ∷ others) × Stale m n (j ∷ others)
  read_mixed n x =
      let p = x.index in
      let v = live_read p x.is x.reads in
      let le : p ≤ length m.code = inside m.code p x.is in (
        x.instr,
        x.next,
        stands_of (ending_place m p x.is),
        x.reads,
        subst (Fresh m n) x.is (((is.fresh).exact p n le v).0 (ap (λ q. has (set_in_row s.fresh.rows.items q) n) (same p) ∙ x.fresh_there)),
        subst (Stale m n) x.is (((is.stale).exact p n le v).0 (ap (λ q. has (set_in_row s.stale.rows.items q) n) (same p) ∙ x.stale_there)),
      )
    where
      same : (q : ℕ) → q ≡ 0 + q
      same q = omega arith

      inside : (code : List Instr) (p : ℕ) {i : Instr} {next : List Instr} → drop p code ≡ i ∷ next → p ≤ length code
      inside code zero e = omega arith
      inside [] (suc p) {i} {next} e = absurd (bad e)
        where
          bad : [] ≡ i ∷ next → ⊥
          bad e = cc
      inside (x ∷ xs) (suc p) e = let le = inside xs p e in omega (arith, le)

  -- ---- each move

  table_small : (k : ℕ) → k < length table → k < bound
  table_small k lt =
      subst (λ l. k < l)
      (length_places s.fresh.rows.items 0 (contents f.places) (replicate s.graph.bound Unseen) ∙ length_unseen s.graph.bound ∙ is.bound_is) lt

  is_move : (move : Move) → Contains moves move → IsSinkingMove m move
  is_move move c =
      let k = in_moves m.code s.stale.rows.items mixed registers table move c in
      let x = moved m.code s.stale.rows.items mixed (slice_index_or registers k.0 None) (slice_index_or table k.0 Unseen) move k.2 in
      let r = move.reg in
      let entered = is_entered m unique bound k.0 r x.reg in
      let t = seen_once x.sight (sees k.0 k.1) in
      made move x entered.0 (subst (λ n. n < bound) (sym entered.1) (table_small k.0 k.1))
      (subst (λ n. IsSeen n x.call) (sym entered.1) t.0) (λ q h. t.1 q (subst (λ n. IsSeen n q) entered.1 h))
    where
      made : (move : Move) {o : Option Reg} {sight : Sight} (x : Moved m.code s.stale.rows.items mixed o sight move) → walks.InCode move.reg m.code →
          move.reg.number < bound → IsSeen move.reg.number x.call → ((q : ℕ) → IsSeen move.reg.number q → q ≡ x.call) → IsSinkingMove m move
      made move x code small h only =
          let i = h.instr in
          let next = h.next in
          let p = x.call in
          let q = move.place in
          let n = move.reg.number in
          let calls : is_call i.op ≡ true = sym (ap some_call (get_there m.code p i next h.is_at)) ∙ x.calls in
          let op = call_is i.op calls in
          let l = lives_of h.over in
          let ran = run_to m n q p i next h.is_at (within p h.here) x.begins in
          let begin = begin_of m n q i next ran in
          let first = begin.0 in
          let rest = begin.1 in
          record {
            instr = first;
            next = rest;
            place = sym (place_back m q (first ∷ rest) ran.within begin.2);
            sunk_at = record {
              register = is_in_code code;
              open_place = is_unset move.reg.loc x.open_place;
              stands = stands_of (ending_place m q begin.2);
              call = i;
              after = next;
              run = record {
                run = ran.run;
                is = sym begin.2 ∙ ran.is;
                straight = ran.straight;
                unwritten = ran.unwritten;
                begins = begins_there m n q (first ∷ rest) begin.2 ran.within ran.begins;
                operation = op.0;
                is_call = op.1;
              };
              to = next;
              over = h.over;
              unsaved = h.fresh;
              surely = λ st.
                  not_both (has (set_in_row s.stale.rows.items p) n)
                  (((is.stale).exact p n (within p h.here) (subst (Live m n) (sym h.is_at) l.before)).1 (subst (Stale m n) (sym h.is_at) st))
                  x.surely;
              only = λ j others after o fr.
                  let y = to_seen n (code_index m (j ∷ others)) (from_seen o fr) in
                  let same = only (code_index m (j ∷ others)) y in
                  tail_same
                  (sym (place_is m (ending_of (lives_of o).stands)) ∙ ap (λ q. drop q m.code) same ∙ h.is_at);
              late = λ j others st a fr old.
                  not_both (has mixed n)
                  (mixed_is_in s.fresh.rows.items s.stale.rows.items m.code bound n small (mixed_read n j others st a fr old)) x.unmixed;
            };
          }

  -- ---- and every one

  is_all : (old : flow.Flow) → IsFlowOf m old → flows.IsFlowFormed old → old.bound ≡ bound → (i : Instr) (next : List Instr) (r : Reg) →
      IsSunkAt m i next r → Contains moves (record { reg = r; place = code_index m (i ∷ next) })
  is_all old flow_is old_formed same i next r a =
      let n = r.number in
      let call = a.call in
      let after = a.after in
      let p = code_index m (call ∷ after) in
      let l = lives_of a.over in
      let ending = ending_of l.stands in
      let small : n < bound = subst (λ b. n < b) same (live_small m old flow_is old_formed l.before ending) in
      let e = is_live_entered m unique bound l.before ending small in
      let same_reg : e.0 ≡ r = formed.numbers e.0 r (is_in_code e.1) a.register e.2 in
      let in_table : n < length table =
      subst (λ k. n < k)
      (sym (length_places s.fresh.rows.items 0 (contents f.places) (replicate s.graph.bound Unseen) ∙ length_unseen s.graph.bound ∙ is.bound_is)) small in
      let seen = to_seen n p (from_seen a.over a.unsaved) in
      let sight : slice_index_or table n Unseen ≡ Once p =
      once_seen (sees n in_table) seen
      (λ q h.
      sym (place_back m q (h.instr ∷ h.next) (within q h.here) h.is_at)
      ∙ place_same h.instr h.next call after (a.only h.instr h.next h.next h.over h.fresh)) in
      let calls : some_call (slice_get m.code p) ≡ true =
      ap some_call (get_there m.code p call after (place_is m ending)) ∙ is_a_call call.op (a.run).operation (a.run).is_call l.is_held in
      let surely : has (set_in_row s.stale.rows.items p) n ≡ false =
      ⊎_elim
      (λ t.
      absurd
      (a.surely
      (subst (Stale m n) (place_is m ending)
      (((is.stale).exact p n (place_within m (call ∷ after)) (subst (Live m n) (sym (place_is m ending)) l.before)).0 t))))
      (λ t. t) (cases_Bool (has (set_in_row s.stale.rows.items p) n)) in
      let unmixed : has mixed n ≡ false =
      ⊎_elim
      (λ t.
      let x = read_mixed n (is_mixed_in s.fresh.rows.items s.stale.rows.items m.code bound n t) in
      absurd (a.late x.0 x.1 x.2 x.3 x.4 x.5))
      (λ t. t) (cases_Bool (has mixed n)) in
      moves_in m.code s.stale.rows.items mixed registers table n (record { reg = r; place = code_index m (i ∷ next) })
      (subst (λ k. n < k) (sym (length_table m unique bound)) small) in_table
      (ap (λ o. move_at m.code s.stale.rows.items mixed o (slice_index_or table n Unseen)) (e.3 ∙ ap Some same_reg)
      ∙ ap (move_at m.code s.stale.rows.items mixed (Some r)) sight
      ∙ moves_at m.code s.stale.rows.items mixed r p (code_index m (i ∷ next)) (ap is_unset_location a.open_place) calls surely unmixed
      (run_starts m n (ending_of a.stands) a.run))
    where
      place_same : (j : Instr) (others : List Instr) (call : Instr) (after : List Instr) → others ≡ after →
          code_index m (j ∷ others) ≡ code_index m (call ∷ after)
      place_same j others call after e = ap (λ xs. length m.code - suc (length xs)) e

  pub lengths : (rs : List (Option Reg)) (ss : List Sight) → rs ≡ registers → ss ≡ table → length rs ≡ length ss
  lengths rs ss e h =
      ap length e ∙ length_table m unique bound ∙ sym is.bound_is ∙ sym (length_unseen s.graph.bound)
      ∙ sym (length_places s.fresh.rows.items 0 (contents f.places) (replicate s.graph.bound Unseen)) ∙ sym (ap length h)

  pub are_moves : (old : flow.Flow) → IsFlowOf m old → flows.IsFlowFormed old → old.bound ≡ bound → (found : List Move) →
      found ≡ moves → AreMoves m found
  are_moves old flow_is old_formed same found e =
      subst (AreMoves m) (sym e)
      (record {
        each = is_move;
        all = is_all old flow_is old_formed same;
        rising = moves_rise m.code s.stale.rows.items mixed registers table 0
            (λ k r h. (is_entered m unique bound k r h).1 ∙ plain_back k);
      })
    where
      plain_back : (k : ℕ) → k ≡ 0 + k
      plain_back k = omega arith

-- ---- with no call

no_call : (code : List Instr) → has_call code ≡ false → {i : Instr} {next : List Instr} → StandsAsInstr i next code → is_call i.op ≡ false
no_call (i ∷ is) e walks.here = left (is_call i.op) (has_call is) e
  where
    left : (a b : Bool) → a || b ≡ false → a ≡ false
    left true b e = e
    left false b e = refl
no_call (i ∷ is) e (walks.below s) = no_call is (right (is_call i.op) (has_call is) e) s
  where
    right : (a b : Bool) → a || b ≡ false → b ≡ false
    right true b e = absurd (not_both true refl e)
    right false b e = e
no_call [] e s = elim s [ ]

pub none_moved : (m : Mach) (code : List Instr) (found : List Move) → code ≡ m.code → has_call code ≡ false → found ≡ [] → AreMoves m found
none_moved m code found same e none =
    subst (AreMoves m) (sym none)
    (record {
      each = λ move c. absurd (none_in move c);
      all = λ i next r a. absurd (bad a.over (a.run).is_call);
      rising = pairs_none (λ (x y : Move). x.reg.number < y.reg.number);
    })
  where
    bad : {n : ℕ} {i : Instr} {next to : List Instr} {g : Op} → LivesOver m n i next to → i.op ≡ mach.Op g → ⊥
    bad {i = i} {g = g} (lives st d w (goes t o) v) h =
        not_both (is_call i.op) (is_a_call i.op g h (held_of i.op t d o)) (no_call code e (subst (StandsAsInstr i _) (sym same) st))
