-- What a function keeps whose constants are made at the entry.
use Rattle.std.proofs.Common.{◌≡◌, ℕ, ◌+◌, ◌≤◌, Bool, true, false, cond, inl, inr, List, [], ◌∷◌, ◌++◌, length, refl, sym, ap, ◌∙◌, subst, arith}
use Rattle.std.specs.List.{Contains}
use Rattle.std.proofs.lemmas.Bool.{both_ways}
use Rattle.std.proofs.lemmas.List.Elements.{Contains-append_right}
use Rattle.bs_words.specs.declared.types.Comp.{Comp}
use Rattle.bs_words.specs.declared.types.Comp.TheVariants as comp
use Rattle.bs_words.specs.declared.types.Loc.TheVariants as loc
use Rattle.mach_ir.specs.Formed.{IsFormedInstruction, AreDistinct, labels_in, LabelOccursIn, HasHandler, WellFormed}
use Rattle.mach_ir.specs.Keeps.{Keeps, NamesSymbol, NamesExternal}
use Rattle.mach_ir.specs.Meaning.{is_addr, after_label, from_handler}
use Rattle.mach_ir.specs.Placed.{WellPlaced, AllocatesFresh, IsFresh, AreStraight}
use Rattle.mach_ir.specs.Seats.{Seated}
use Rattle.mach_ir.specs.Sizes.{operand_count, Size, HasSize}
use Rattle.mach_ir.specs.Walks.{AmongRegisters, Writes, IsRegister, StandsAsInstr}
use Rattle.mach_ir.specs.declared.blocks.NewBlock.{NewBlock}
use Rattle.mach_ir.specs.declared.op.Access.TheVariants as access
use Rattle.mach_ir.specs.declared.op.Op.TheVariants as op
use Rattle.mach_ir.specs.declared.op.Pure.TheVariants as pure
use Rattle.mach_ir.specs.declared.mach.MachOp.TheVariants as mach
use Rattle.mach_ir.specs.declared.reg.Reg.{Reg}
use Rattle.mach_ir.specs.declared.mach.Instr.{Instr}
use Rattle.mach_ir.specs.declared.mach.Mach.{Mach}
use Rattle.mach_laws.specs.Expand.{expand, Ending, all}
use Rattle.mach_laws.proofs.Places.{ending_next, stands_of, stands_behind, stands_within, head_of, tail_of, straight_cons, contains_of, stands_in, place_behind}
use Rattle.pass_rules.proofs.Formed.{ComesFrom, is_new, stood, KeepsPlaces}
use Rattle.pass_rules.proofs.Formed as places
use Rattle.pass_rules.proofs.Words.{both_sum}
use Rattle.deadcode_rules.specs.Dropped.{may_go, unless_dropped}
use Rattle.deadcode_rules.proofs.Left.{IsMain, contains_left, place_left, handler_left, tries_before, run_back, label_is, handler_is}
use Rattle.deadcode_rules.proofs.Text.{pure_of, pure_straight, mark_stays, Fate, falls, remains, fate, same_labels}
use Rattle.hoist_rules.specs.Hoisted.{MayMove, hoisted_instruction, hoisted, MayAllMove}
use Rattle.hoist_rules.proofs.Moved as at_entry_of
use Rattle.hoist_rules.proofs.Live as live
use Rattle.hoist_rules.proofs.Entry as entry
use Rattle.hoist_rules.proofs.Kept.{does_hoisted}

is_one : (c : Comp) → c ≡ comp.Addr → is_addr c ≡ true
is_one c e = ap is_addr e

module _ (m : Mach) (moves : ℕ → Bool) (may : MayAllMove m moves) where
  abbrev q : Mach
  q = hoisted moves m

  abbrev rest_of : Mach
  rest_of = at_entry_of.rest_of m moves may

  abbrev f : ℕ → Instr → List Instr
  f = unless_dropped moves

  abbrev front : List Instr
  front = expand (hoisted_instruction moves) m.code

  abbrev IsMade : ℕ → Type 0
  IsMade = at_entry_of.IsMade m moves may

  abbrev Whence : Instr → List Instr → Type 0
  Whence = live.Whence m moves may

  pub was : (r : Reg) → IsRegister q r → IsRegister m r
  was = live.was_register m moves may

  pub whence : {j : Instr} {zs : List Instr} → StandsAsInstr j zs q.code → Whence j zs
  whence = live.whence m moves may

  -- ---- what is in the code

  pub contains_back : (i : Instr) → Contains q.code i → Contains m.code i
  contains_back i c = let s = stands_in q.code i c in by (whence s.1)
    where
      by : {zs : List Instr} → Whence i zs → Contains m.code i
      by (live.at_the_entry s h) = contains_of s
      by (live.left o) = contains_of o.stands

  contains_there : (i : Instr) → may_go i.op ≡ false → Contains m.code i → Contains q.code i
  contains_there i k c = Contains-append_right front rest_of.code i (contains_left moves m.code i k c)

  -- ---- labels

  labels_past : {xs : List Instr} (ys : List Instr) → at_entry_of.Front m moves may xs → labels_in (xs ++ ys) ≡ labels_in ys
  labels_past ys at_entry_of.front_end = refl
  labels_past ys (at_entry_of.front_one {i = i} {next = next} {xs = xs} s h k) =
      ap (λ (i : Instr). labels_in (i ∷ (xs ++ ys))) (may i next s h).is ∙ labels_past ys k

  labels_same : labels_in q.code ≡ labels_in m.code
  labels_same = labels_past rest_of.code (at_entry_of.whole_front m moves may) ∙ same_labels moves m.code

  -- ---- allocations

  never_allocates : {i : Instr} {next : List Instr} → MayMove m i next → (blocks : List NewBlock) →
      i.op ≡ mach.Op (op.Access (access.Alloc blocks)) → ⊥
  never_allocates v blocks e = no_alloc _ (sym (ap (λ (i : Instr). i.op) v.is) ∙ e)
    where
      no_alloc : (w : ℕ) → mach.Op (op.Pure (pure.Constant w)) ≡ mach.Op (op.Access (access.Alloc blocks)) → ⊥
      no_alloc w e = cc

  pub still_fresh : AllocatesFresh m → AllocatesFresh q
  still_fresh known = record { fresh = λ i zs s blocks e r c. by i zs blocks e r c (whence s) }
    where
      main : (i : Instr) (zs : List Instr) (blocks : List NewBlock) → i.op ≡ mach.Op (op.Access (access.Alloc blocks)) → (r : Reg) →
          Contains i.results r → IsMain moves i zs m.code → IsFresh q i zs r
      main i zs blocks e r c w =
          record {
            open_place = h.open_place;
            once = λ j ys t x. once j ys x (whence t);
            no_param = h.no_param;
            own = λ k t o. h.own k (was k t) o;
            unread = λ j run t st a. unread j run st a (whence t);
          }
        where
          h : IsFresh m i w.next r
          h = known.fresh i w.next w.stands blocks e r c

          once : (j : Instr) (ys : List Instr) → Writes q j r.number → Whence j ys → ys ≡ zs
          once j ys x (live.at_the_entry {next = next} t g) =
              absurd
              (never_allocates
              (may i w.next w.stands
              (ap (λ xs. moves (length xs)) (sym ((known.fresh i w.next w.stands blocks e r c).once j next t x)) ∙ g))
              blocks e)
          once j ys x (live.left v) =
              v.same
              ∙ ap (expand f) ((known.fresh i w.next w.stands blocks e r c).once j v.next v.stands x) ∙ sym w.same

          unread : (j : Instr) (run : List Instr) → AreStraight (j ∷ run) → AmongRegisters r.number j.args → Whence j (run ++ i ∷ zs) → ⊥
          unread j run st a (live.at_the_entry {next = next} t g) = live.no_read m moves may (may j next t g) a
          unread j run st a (live.left v) =
              let u = run_back moves v.next run i zs v.same (tail_of j run st) in
              let there : StandsAsInstr j (u.run ++ i ∷ u.next) m.code = subst (λ xs. StandsAsInstr j xs m.code) u.same v.stands in
              (known.fresh i u.next (stands_within there (stands_behind u.run i u.next)) blocks e r c).unread j u.run there
              (straight_cons j u.run (head_of j run st) u.straight) a

      by : (i : Instr) (zs : List Instr) (blocks : List NewBlock) → i.op ≡ mach.Op (op.Access (access.Alloc blocks)) → (r : Reg) →
          Contains i.results r → Whence i zs → IsFresh q i zs r
      by i zs blocks e r c (live.at_the_entry {next = next} s h) = absurd (never_allocates (may i next s h) blocks e)
      by i zs blocks e r c (live.left w) = main i zs blocks e r c w

  -- ---- each instruction moves or is left

  pub data Divides (i : Instr) (is : List Instr) : Type 0 where
    goes_first : expand (hoisted_instruction moves) (i ∷ is) ≡ i ∷ expand (hoisted_instruction moves) is → expand f (i ∷ is) ≡ expand f is → Divides i is
    goes_after : expand (hoisted_instruction moves) (i ∷ is) ≡ expand (hoisted_instruction moves) is → expand f (i ∷ is) ≡ i ∷ expand f is → Divides i is

  pub divides : (i : Instr) (is : List Instr) → Ending (i ∷ is) m.code → Divides i is
  divides i is ending = by (moves (length is)) refl (fate moves i is)
    where
      by : (b : Bool) → moves (length is) ≡ b → Fate moves i is → Divides i is
      by true e (falls g d s h) = goes_first (ap (λ b. cond b (i ∷ []) [] ++ expand (hoisted_instruction moves) is) e) h
      by false e (falls g d s h) = absurd (both_ways (moves (length is)) e d)
      by true e (remains k s h) =
          absurd (both_ways (moves (length is)) (k (at_entry_of.may_go_so m moves may (may i is (stands_of ending) e))) e)
      by false e (remains k s h) = goes_after (ap (λ b. cond b (i ∷ []) [] ++ expand (hoisted_instruction moves) is) e) h

  -- what is a sum over instructions stays
  module _ (M : List Instr → ℕ) (one : Instr → ℕ) (none : M [] ≡ 0) (more : (i : Instr) (is : List Instr) → M (i ∷ is) ≡ one i + M is) where
    parts_sum : (code : List Instr) → Ending code m.code → M (expand (hoisted_instruction moves) code) + M (expand f code) ≡ M code
    parts_sum [] ending = let e = none in omega (arith, e)
    parts_sum (i ∷ is) ending = by (divides i is ending) (parts_sum is (ending_next ending))
      where
        by : Divides i is → M (expand (hoisted_instruction moves) is) + M (expand f is) ≡ M is →
            M (expand (hoisted_instruction moves) (i ∷ is)) + M (expand f (i ∷ is)) ≡ M (i ∷ is)
        by (goes_first a b) ih =
            let x = ap M a in
            let y = ap M b in
            let z = more i (expand (hoisted_instruction moves) is) in
            let w = more i is in omega (arith, x, y, z, w, ih)
        by (goes_after a b) ih =
            let x = ap M a in
            let y = ap M b in
            let z = more i (expand f is) in
            let w = more i is in omega (arith, x, y, z, w, ih)

    pub sum_same : M q.code ≡ M m.code
    sum_same = both_sum M one none more front rest_of.code ∙ parts_sum m.code all

  pub same_size : (s : Size) → HasSize m s → HasSize q s
  same_size s h =
      let a : length q.code ≡ length m.code = sum_same length (λ i. 1) refl (λ i is. omega arith) in
      let b : operand_count q.code ≡ operand_count m.code =
      sum_same operand_count (λ (i : Instr). length i.args + length i.results) refl (λ i is. refl) in
      record {
        instrs = subst (λ n. n ≤ s.instrs) (sym a) h.instrs;
        operands = subst (λ n. n ≤ s.operands) (sym b) h.operands;
        numbers = λ r i. h.numbers r (was r i);
        origins = λ r i. h.origins r (was r i);
        labels = h.labels;
      }

  pub still_seated : Seated m → Seated q
  still_seated = places.still_seated m q.code contains_back

  keeps_places : KeepsPlaces m q.code
  keeps_places =
      record {
        whence = λ i zs s. comes (whence s);
        among = λ i c. inr (contains_back i c);
        marks = λ i g e c. contains_there i (mark_stays g i.op e) c;
        places = λ l p. place_behind front rest_of.code (place_left moves p);
        labels = labels_same;
        tries = at_entry_of.tries_past_front m moves may rest_of.code (at_entry_of.whole_front m moves may)
            ∙ tries_before moves m.code refl;
        label_tries = λ l. tries_before moves (after_label l m.code) (at_entry_of.label_same m moves may l ∙ label_is m moves l);
        handler_tries = λ l.
            tries_before moves (from_handler l m.code) (at_entry_of.handler_same m moves may l ∙ handler_is m moves l);
        registers = was;
      }
    where
      comes : {i : Instr} {zs : List Instr} → Whence i zs → ComesFrom m q.code i zs
      comes {i} (live.at_the_entry {next = next} s h) =
          is_new (pure_straight (pure_of i.op (at_entry_of.may_go_so m moves may (may i next s h))))
      comes (live.left w) =
          stood w.stands (tries_before moves w.next w.same) (λ l p. subst (LabelOccursIn l) (sym w.same) (place_left moves p))
          (λ l p. subst (HasHandler l) (sym w.same) (handler_left moves p))

  module _ (formed : WellFormed m) where
    -- a register of that number is open, and of ints
    made_is : (r : Reg) → IsRegister m r → (a : IsMade r.number) → r ≡ (at_entry_of.move_of m moves may a).register
    made_is r i a =
        formed.numbers r (at_entry_of.move_of m moves may a).register i (entry.made_register m moves may a)
        (sym (at_entry_of.made_number m moves may a))

    pub still_formed : WellFormed q
    still_formed =
        places.still_formed m q.code formed keeps_places
        (places.all_still m q.code contains_back IsFormedInstruction formed.instrs)
        (places.all_still m q.code contains_back (λ (i : Instr). AreDistinct i.results) formed.distinct)

    open_of : (r : Reg) → IsRegister m r → IsMade r.number → r.loc ≡ loc.Unset
    open_of r i a = ap (λ (r : Reg). r.loc) (made_is r i a) ∙ (at_entry_of.move_of m moves may a).open_place

    pub still_placed : WellPlaced m → WellPlaced q
    still_placed =
        places.still_placed m q.code was
        (λ r k i j joined fixed e.
        live.joined_back m moves may (λ a. fixed (open_of r (was r i) a)) (λ a. fixed (e ∙ open_of k (was k j) a))
        joined)

    pub still_keeps : Keeps m q
    still_keeps =
        record {
          name = refl;
          result = refl;
          does = does_hoisted m moves may formed;
          origins = λ r i loose. record { register = r; among = was r i; loose = loose; same = refl };
          slots = λ r k i s. inl (record { register = r; among = was r i; stands = s; same = refl });
          symbols = λ name. places.named_before m q.code contains_back (NamesSymbol name);
          externals = λ row. places.named_before m q.code contains_back (NamesExternal row);
          addrs = live.no_addr_back m moves may
              (λ r i a addr.
              both_ways (is_addr r.comp) (ap (λ (r : Reg). is_addr r.comp) (made_is r i a) ∙ entry.never_addr (at_entry_of.move_of m moves may a).fits) (is_one r.comp addr));
        }
