-- The numbers of the tables are those of a split function.
use Rattle.std.proofs.Common.{◌≡◌, ◌≢◌, ℕ, suc, ◌+◌, ◌-◌, ◌<◌, ◌≤◌, Bool, true, false, cond, ◌⊎◌, inl, inr, ⊎_elim, List, [], ◌∷◌, Option, Some, None, length, drop, refl, sym, ap, ◌∙◌, subst, arith}
use Rattle.std.proofs.lemmas.List.Elements.{Contains-append_left, Contains-append_right}
use Rattle.std.proofs.lemmas.Bool.{cases_Bool, eq-eqb, lt-ltb, le-ltb}
use Rattle.std.proofs.lemmas.List.{length-drop}
use Rattle.std.proofs.lemmas.Option.{slice_get_within}
use Rattle.std.specs.List.{Contains}
use Rattle.std.specs.Prelude.{nat_lt, slice_get, slice_index}
use Rattle.bs_words.specs.declared.types.Loc.TheVariants as loc
use Rattle.bs_words.proofs.Lists.{none_in, first_in}
use Rattle.dataflow.specs.Rows.{set_in_row}
use Rattle.mach_ir.specs.Formed.{WellFormed}
use Rattle.mach_ir.specs.Meaning.{killed}
use Rattle.mach_ir.specs.Placed.{WellPlaced}
use Rattle.mach_ir.specs.Sizes.{Size, HasSize}
use Rattle.mach_ir.specs.Walks.{AmongRegisters, Writes, IsRegister, is_param, is_colour, is_in_code, StandsAsInstr}
use Rattle.mach_ir.specs.declared.reg.Reg.{Reg}
use Rattle.mach_ir.specs.declared.mach.Instr.{Instr}
use Rattle.mach_ir.specs.declared.mach.Mach.{Mach}
use Rattle.mach_laws.specs.Expand.{Ending, all}
use Rattle.mach_laws.proofs.Places.{ending_next, ending_of, args_in, results_in, is_unset}
use Rattle.mach_laws.proofs.Walking.{drop_ending, place_is}
use Rattle.mach_laws.proofs.Among.{split_among, number_among}
use Rattle.liveness.proofs.Bounds.{killed_is_colour}
use Rattle.split_rules.specs.Renamed.{Naming, renamed, renamed_code}
use Rattle.split_rules.specs.Split.{IsNaming, JoinsExactly, AreByFirst, IsDense, IsSplit}
use Rattle.split_rules.specs.Writes.{WriteReaches, Chained, IsWrite, by_entry, by_instr}
use Rattle.split_rules.proofs.Result.{comes_write, chained_equal}
use Rattle.split_rules.proofs.Whole.{fixed_colours}
use Rattle.split.specs.Names.{new_number, find_coming, or_name, name_of, naming, AreSplitTables}
use Rattle.split_rules.specs.Order.{write_of, open_writes, code_writes, writes_of, HasIndex, IsFirstOfWeb, IsFirstOfAll, IsByFirst, kept, given}
use Rattle.split.specs.Writes.{listed_writes, writes_of_number, AreRising, has_left, find_at, is_first_write, code_after}
use Rattle.split.specs.declared.tables.Tables.{Tables}
use Rattle.split_rules.specs.declared.writes.Write.{Write}
use Rattle.split.proofs.Grouping.{few_writes}
use Rattle.split.proofs.Joining.{chain_turned, chain_on}
use Rattle.split.proofs.Members.{some_is, got_in, in_got, in_open, in_writes, IsOpenWrite, open_write, fixed_no_write, found_at, finds_at, finds_first, first_low, first_least, one_first, at_entry, entry_at, left_within, found_coming, finds_coming}
use Rattle.mach_ir.specs.Places.{is_unset_location}
use Rattle.bs_words.proofs.Truths.{not_both}

abbrev number_of : Option Write → ℕ
number_of None = 0
number_of (Some x) = x.number

module _ (m : Mach) (free : ℕ) (t : Tables) (formed : WellFormed m) (placed : WellPlaced m)
    (numbers : (r : Reg) → IsRegister m r → r.number < free) (tables : AreSplitTables m free t) where
  abbrev names : Naming
  names = naming t (length m.code)

  abbrev ws : ℕ → List ℕ
  ws n = writes_of_number t.writes n

  colour_fixed : (r : Reg) → Contains m.colours r → r.loc ≢ loc.Unset
  colour_fixed = fixed_colours m placed

  label : ℕ → ℕ
  label w = slice_index tables.labels w

  open_of : (w : ℕ) (x : Write) → slice_get (listed_writes t.writes) w ≡ Some x → IsOpenWrite m x
  open_of w x e =
      open_write m x (subst (λ xs. Contains xs x) tables.writes.all (got_in (listed_writes t.writes) w x e))

  -- ---- one number

  abbrev the_number : ℕ → ℕ → ℕ
  the_number n l = new_number t.writes free n l

  name_known : (n w : ℕ) → Contains (ws n) w → name_of t.names.items n (Some w) ≡ the_number n (slice_index tables.labels w)
  name_known n w c =
      let x = tables.writes.grouped.sound n w c in
      ap (or_name n) (tables.names.each w x.0 x.1)
      ∙ ap (λ n. the_number n (slice_index tables.labels w)) x.2

  number_by : (n l : ℕ) (b : Bool) → is_first_write (ws n) l ≡ b → the_number n l ≡ cond b n (free + l)
  number_by n l b e = ap (λ b. cond b n (free + l)) e

  -- the old number, or one for the label
  kept_or : (n l : ℕ) → (the_number n l ≡ n) ⊎ (the_number n l ≡ free + l)
  kept_or n l = ⊎_elim (λ e. inl (number_by n l true e)) (λ e. inr (number_by n l false e)) (cases_Bool (is_first_write (ws n) l))

  -- webs of one register with one number are one
  label_is : (n l k : ℕ) → n < free → the_number n l ≡ the_number n k → l ≡ k
  label_is n l k lt e = by (is_first_write (ws n) l) (is_first_write (ws n) k) refl refl
    where
      by : (b d : Bool) → is_first_write (ws n) l ≡ b → is_first_write (ws n) k ≡ d → l ≡ k
      by true true x y = one_first (ws n) l k x y
      by true false x y =
          let s : n ≡ free + k = sym (number_by n l true x) ∙ e ∙ number_by n k false y in absurd (omega (arith, lt, s))
      by false true x y =
          let s : free + l ≡ n = sym (number_by n l false x) ∙ e ∙ number_by n k true y in absurd (omega (arith, lt, s))
      by false false x y =
          let s : free + l ≡ free + k = sym (number_by n l false x) ∙ e ∙ number_by n k false y in omega (arith, s)

  -- ---- back

  abbrev back_of : ℕ → ℕ
  back_of y = cond (nat_lt y free) y (number_of (slice_get (listed_writes t.writes) (y - free)))

  back_old : (n : ℕ) → n < free → back_of n ≡ n
  back_old n lt = by (nat_lt n free) refl
    where
      below_is : n < free → nat_lt n free ≡ true
      below_is lt = lt-ltb n free lt

      by : (b : Bool) → nat_lt n free ≡ b → cond b n (number_of (slice_get (listed_writes t.writes) (n - free))) ≡ n
      by true e = refl
      by false e = absurd (not_both (nat_lt n free) (below_is lt) e)

  back_new : (k : ℕ) (x : Write) → slice_get (listed_writes t.writes) k ≡ Some x → back_of (free + k) ≡ x.number
  back_new k x e =
      ap (λ b. cond b (free + k) (number_of (slice_get (listed_writes t.writes) (free + k - free)))) (not_below free k)
      ∙ ap (λ j. number_of (slice_get (listed_writes t.writes) j)) (minus free k) ∙ ap number_of e
    where
      not_below : (a b : ℕ) → nat_lt (a + b) a ≡ false
      not_below a b = le-ltb (a + b) a (omega arith)

      minus : (a b : ℕ) → a + b - a ≡ b
      minus a b = omega arith

  label_write : (n w : ℕ) → Contains (ws n) w → (x : Write) × (slice_get (listed_writes t.writes) (slice_index tables.labels w) ≡ Some x) × (x.number ≡ n)
  label_write n w c =
      let x = tables.writes.grouped.sound n w c in
      let lt : w < length (listed_writes t.writes) = slice_get_within (listed_writes t.writes) w x.0 x.1 in
      let len = tables.webs.sound.len in
      let l = tables.webs.sound.linked w (omega (arith, lt, len)) in (
        l.other,
        l.is_other,
        sym l.number ∙ ap (λ (x : Write). x.number) (some_is l.one x.0 (sym l.is_one ∙ x.1)) ∙ x.2,
      )

  -- the label is in the group too
  label_among : (n w : ℕ) → Contains (ws n) w → Contains (ws n) (slice_index tables.labels w)
  label_among n w c =
      let x = label_write n w c in
      subst (λ k. Contains (ws k) (slice_index tables.labels w)) x.2
      (tables.writes.grouped.whole (slice_index tables.labels w) x.0 x.1)

  label_low : (n w : ℕ) → Contains (ws n) w → slice_index tables.labels w ≤ w
  label_low n w c =
      let x = tables.writes.grouped.sound n w c in
      let lt : w < length (listed_writes t.writes) = slice_get_within (listed_writes t.writes) w x.0 x.1 in
      let len = tables.webs.sound.len in tables.webs.least w (omega (arith, lt, len))

  back_name : (n : ℕ) → n < free → (o : Option ℕ) → ((w : ℕ) → o ≡ Some w → Contains (ws n) w) → back_of (name_of t.names.items n o) ≡ n
  back_name n lt None known = back_old n lt
  back_name n lt (Some w) known =
      let c = known w refl in
      ap back_of (name_known n w c)
      ∙ ⊎_elim (λ e. ap back_of e ∙ back_old n lt)
      (λ e. let x = label_write n w c in ap back_of e ∙ back_new (slice_index tables.labels w) x.0 x.1 ∙ x.2)
      (kept_or n (slice_index tables.labels w))

  coming_known : (p n w : ℕ) → find_coming (set_in_row t.rows.rows.items p) (ws n) ≡ Some w → Contains (ws n) w
  coming_known p n w e = (found_coming (set_in_row t.rows.rows.items p) (ws n) w e).among

  at_known : (k n w : ℕ) → find_at (listed_writes t.writes) k (ws n) ≡ Some w → Contains (ws n) w
  at_known k n w e = (found_at (listed_writes t.writes) k (ws n) w e).among

  -- ---- fixed ones

  none_fixed : (r : Reg) → IsRegister m r → r.loc ≢ loc.Unset → (w : ℕ) → Contains (ws r.number) w → ⊥
  none_fixed r i h w c =
      let x = tables.writes.grouped.sound r.number w c in
      fixed_no_write m formed colour_fixed r x.0 i h (open_of w x.0 x.1) x.2

  fixed_name : (r : Reg) → IsRegister m r → r.loc ≢ loc.Unset → (o : Option ℕ) →
      ((w : ℕ) → o ≡ Some w → Contains (ws r.number) w) → name_of t.names.items r.number o ≡ r.number
  fixed_name r i h None known = refl
  fixed_name r i h (Some w) known = absurd (none_fixed r i h w (known w refl))

  -- ---- writes are found

  write_found : (n k : ℕ) → Contains (writes_of m) (record { left = k; number = n }) → (v : ℕ) × (find_at (listed_writes t.writes) k (ws n) ≡ Some v)
  write_found n k c =
      let x : Write = record { left = k; number = n } in
      let w = in_got (listed_writes t.writes) x (subst (λ xs. Contains xs x) (sym tables.writes.all) c) in
      finds_at (listed_writes t.writes) k (ws n) w.0 x (tables.writes.grouped.whole w.0 x w.1) w.1 refl

  param_found : (r : Reg) → IsRegister m r → r.loc ≡ loc.Unset → AmongRegisters r.number m.params →
      (v : ℕ) × (find_at (listed_writes t.writes) (length m.code) (ws r.number) ≡ Some v)
  param_found r i u a =
      let p = number_among m.params a in
      let e = formed.numbers p.0 r (is_param p.1) i p.2 in
      write_found r.number (length m.code)
      (Contains-append_left (open_writes (length m.code) m.params) (code_writes m.code) (write_of (length m.code) r)
      (in_open (length m.code) m.params r (subst (Contains m.params) e p.1) u))

  result_found : (r : Reg) → IsRegister m r → r.loc ≡ loc.Unset → (i : Instr) (next : List Instr) → StandsAsInstr i next m.code →
      Writes m i r.number → (v : ℕ) × (find_at (listed_writes t.writes) (length next) (ws r.number) ≡ Some v)
  result_found r k u i next s a =
      ⊎_elim
      (λ h.
      let p = number_among i.results h in
      let e = formed.numbers p.0 r (is_in_code (results_in s p.1)) k p.2 in
      write_found r.number (length next)
      (Contains-append_right (open_writes (length m.code) m.params) (code_writes m.code) (write_of (length next) r)
      (in_writes m.code i next r s (subst (Contains i.results) e p.1) u)))
      (λ h.
      let p = number_among (killed m i) h in
      let c = killed_is_colour m i p.0 p.1 in
      let e = formed.numbers p.0 r (is_colour c) k p.2 in
      absurd (colour_fixed p.0 c (ap (λ (r : Reg). r.loc) e ∙ u)))
      (split_among r.number i.results (killed m i) a)

  write_at : (r : Reg) → IsRegister m r → r.loc ≡ loc.Unset → {from : List Instr} → IsWrite m r.number from →
      (v : ℕ) × (find_at (listed_writes t.writes) (length from) (ws r.number) ≡ Some v)
  write_at r i u (by_entry a) = param_found r i u a
  write_at r k u (by_instr {i = i} {next = next} s a) = result_found r k u i next s a

  ends_with : {n : ℕ} {from : List Instr} → IsWrite m n from → Ending from m.code
  ends_with (by_entry a) = all
  ends_with (by_instr s a) = ending_next (ending_of s)

  -- ---- operands and their writes

  code_there : {i : Instr} {next : List Instr} → StandsAsInstr i next m.code → drop (length m.code - 1 - length next) m.code ≡ i ∷ next
  code_there {i} {next} s =
      sym (ap (λ p. drop p m.code) (place_at (length m.code) (length next))) ∙ place_is m (ending_of s)
    where
      place_at : (a b : ℕ) → a - suc b ≡ a - 1 - b
      place_at a b = omega arith

  open_agree : (r : Reg) → IsRegister m r → r.loc ≡ loc.Unset → (i : Instr) (next from : List Instr) → StandsAsInstr i next m.code →
      AmongRegisters r.number i.args → WriteReaches m r.number from (i ∷ next) →
      names.read (length next) r.number ≡ names.write (length from) r.number
  open_agree r k u i next from s a c =
      let n = r.number in
      let p : ℕ = length m.code - 1 - length next in
      let here_is : drop p m.code ≡ i ∷ next = code_there s in
      let within : p ≤ length m.code = below_end (length m.code) (length next) in
      let v = write_at r k u (comes_write m c) in
      let comes = tables.reaching.whole p v.0 n from within (subst (WriteReaches m n from) (sym here_is) c) v.1 in
      let member = at_known (length from) n v.0 v.1 in
      let w = finds_coming (set_in_row t.rows.rows.items p) (ws n) v.0 member comes in
      let found = found_coming (set_in_row t.rows.rows.items p) (ws n) w.0 w.1 in
      let same_label = (tables.webs.one p i next n here_is a).one w.0 v.0
      (record { member = found.among; comes = found.comes }) (record { member = member; comes = comes }) in
      ap (name_of t.names.items n) w.1 ∙ name_known n w.0 found.among ∙ ap (the_number n) same_label
      ∙ sym (ap (name_of t.names.items n) v.1 ∙ name_known n v.0 member)
    where
      below_end : (a b : ℕ) → a - 1 - b ≤ a
      below_end a b = omega arith

  agreeing : (i : Instr) (next from : List Instr) (n : ℕ) → StandsAsInstr i next m.code → AmongRegisters n i.args → WriteReaches m n from (i ∷ next) →
      names.read (length next) n ≡ names.write (length from) n
  agreeing i next from n s a c =
      let r = number_among i.args a in
      let known = is_in_code (args_in s r.1) in
      subst (λ n. names.read (length next) n ≡ names.write (length from) n) r.2
      (⊎_elim
      (λ o.
      open_agree r.0 known (is_unset (r.0.loc) o) i next from s (subst (λ n. AmongRegisters n i.args) (sym r.2) a)
      (subst (λ n. WriteReaches m n from (i ∷ next)) (sym r.2) c))
      (λ o.
      let fixed : r.0.loc ≢ loc.Unset = λ e. not_both (is_unset_location (r.0.loc)) (ap is_unset_location e) o in
      fixed_name r.0 known fixed _ (coming_known (length m.code - 1 - length next) (r.0.number))
      ∙ sym (fixed_name r.0 known fixed _ (at_known (length from) (r.0.number))))
      (cases_Bool (is_unset_location (r.0.loc))))

  -- The entry's write is the first: its label, that of no later one, is its own.
  entry_first : (n w : ℕ) → find_at (listed_writes t.writes) (length m.code) (ws n) ≡ Some w → is_first_write (ws n) (slice_index tables.labels w) ≡ true
  entry_first n w e =
      let f = found_at (listed_writes t.writes) (length m.code) (ws n) w e in
      let early = at_entry m w f.write (subst (λ xs. slice_get xs w ≡ Some f.write) tables.writes.all f.is) f.left in
      by (ws n) refl f.among early
    where
      by : (us : List ℕ) → ws n ≡ us → Contains us w → w < length (open_writes (length m.code) m.params) →
          is_first_write us (slice_index tables.labels w) ≡ true
      by [] s c early = absurd (none_in w c)
      by (u ∷ us) s c early =
          let rising = subst AreRising s (tables.writes.grouped.rising n) in
          let low : u ≤ w = first_low u us w rising c in
          let cu : Contains (ws n) u = subst (λ xs. Contains xs u) (sym s) (first_in u us) in
          let x = tables.writes.grouped.sound n u cu in
          let left : x.0.left ≡ length m.code =
          entry_at m u x.0 (subst (λ xs. slice_get xs u ≡ Some x.0) tables.writes.all x.1) (omega (arith, low, early)) in
          let here_is : find_at (listed_writes t.writes) (length m.code) (u ∷ us) ≡ Some u =
          ap (λ b. cond b (Some u) (find_at (listed_writes t.writes) (length m.code) us))
          (ap (λ o. has_left o (length m.code)) x.1 ∙ eq-eqb x.0.left (length m.code) left) in
          let same : u ≡ w = some_is u w (sym here_is ∙ sym (ap (find_at (listed_writes t.writes) (length m.code)) s) ∙ e) in
          let cw : Contains (ws n) w = subst (λ xs. Contains xs w) (sym s) c in
          let label_in = subst (λ xs. Contains xs (slice_index tables.labels w)) s (label_among n w cw) in
          let above : u ≤ slice_index tables.labels w = first_low u us (slice_index tables.labels w) rising label_in in
          let below_it = label_low n w cw in
          eq-eqb u (slice_index tables.labels w) (omega (arith, same, above, below_it))

  entry_keeps : (n : ℕ) → names.write (length m.code) n ≡ n
  entry_keeps n = by (find_at (listed_writes t.writes) (length m.code) (ws n)) refl
    where
      by : (o : Option ℕ) → find_at (listed_writes t.writes) (length m.code) (ws n) ≡ o → names.write (length m.code) n ≡ n
      by None e = ap (name_of t.names.items n) e
      by (Some w) e =
          ap (name_of t.names.items n) e ∙ name_known n w (at_known (length m.code) n w e)
          ∙ number_by n (slice_index tables.labels w) true (entry_first n w e)

  pub is_naming : IsNaming m names
  is_naming =
      record {
        agree = agreeing;
        back = back_of;
        read_back = λ r i k. back_name r.number (numbers r i) _ (coming_known (length m.code - 1 - k) r.number);
        write_back = λ r i k. back_name r.number (numbers r i) _ (at_known k r.number);
        read_fixed = λ r i h k. fixed_name r i h _ (coming_known (length m.code - 1 - k) r.number);
        write_fixed = λ r i h k. fixed_name r i h _ (at_known k r.number);
        entry = λ n a. entry_keeps n;
      }

  -- ---- joined exactly

  -- the chain from a write to the one that its label names
  label_chain : (r : Reg) → IsRegister m r → r.loc ≡ loc.Unset → (from : List Instr) → IsWrite m r.number from → (v : ℕ) →
      find_at (listed_writes t.writes) (length from) (ws r.number) ≡ Some v → (l : ℕ) → slice_index tables.labels v ≡ l → (x : Write) →
      slice_get (listed_writes t.writes) l ≡ Some x → Chained m r.number from (code_after m x.left)
  label_chain r i u from w v found l is_label x got =
      let f = found_at (listed_writes t.writes) (length from) (ws r.number) v found in
      let lt : v < length (listed_writes t.writes) = slice_get_within (listed_writes t.writes) v f.write f.is in
      let len = tables.webs.sound.len in
      let k = tables.webs.sound.linked v (omega (arith, lt, len)) in
      let one : k.one ≡ f.write = some_is k.one f.write (sym k.is_one ∙ f.is) in
      let y = tables.writes.grouped.sound r.number v f.among in
      let number : k.one.number ≡ r.number =
      ap (λ (x : Write). x.number) (some_is k.one y.0 (sym k.is_one ∙ y.1)) ∙ y.2 in
      let other : k.other ≡ x =
      some_is k.other x (sym k.is_other ∙ ap (slice_get (listed_writes t.writes)) is_label ∙ got) in
      let from_is : code_after m k.one.left ≡ from =
      ap (code_after m) (ap (λ (x : Write). x.left) one ∙ f.left) ∙ drop_ending (ends_with w) in
      subst (λ (y : Write). Chained m r.number from (code_after m y.left)) other
      (subst (λ xs. Chained m r.number xs (code_after m (k.other).left)) from_is
      (subst (λ n. Chained m n (code_after m (k.one).left) (code_after m (k.other).left)) number k.chained))

  pub joins_exactly : JoinsExactly m names
  joins_exactly =
      record {
        exact = λ r i u from to x y. (
          λ e.
              let n = r.number in
              let v = write_at r i u x in
              let w = write_at r i u y in
              let cv = at_known (length from) n v.0 v.1 in
              let cw = at_known (length to) n w.0 w.1 in
              let same_number : the_number n (slice_index tables.labels v.0) ≡ the_number n (slice_index tables.labels w.0) =
              sym (ap (name_of t.names.items n) v.1 ∙ name_known n v.0 cv) ∙ e ∙ ap (name_of t.names.items n) w.1 ∙ name_known n w.0 cw in
              let l = label_is n (slice_index tables.labels v.0) (slice_index tables.labels w.0) (numbers r i) same_number in
              let z = label_write n w.0 cw in
              chain_on m t.writes
              (label_chain r i u from x v.0 v.1 (slice_index tables.labels w.0) l z.0 z.1)
              (chain_turned m t.writes (label_chain r i u to y w.0 w.1 (slice_index tables.labels w.0) refl z.0 z.1)),
          λ h. chained_equal m names agreeing h,
        );
      }

  -- ---- known by the first

  -- the write that has this index, as what is known of the register's writes
  indexed : (n k v : ℕ) → HasIndex m n k v → Contains (ws n) v
  indexed n k v e =
      tables.writes.grouped.whole v (record { left = k; number = n })
      (subst (λ xs. slice_get xs v ≡ Some (record { left = k; number = n })) (sym tables.writes.all) e)

  has_index : (n v : ℕ) → Contains (ws n) v → (k : ℕ) × HasIndex m n k v × k ≤ length m.code
  has_index n v c =
      let x = tables.writes.grouped.sound n v c in
      let got = subst (λ xs. slice_get xs v ≡ Some x.0) tables.writes.all x.1 in (
        x.0.left,
        subst (λ n. slice_get (writes_of m) v ≡ Some (record { left = x.0.left; number = n })) x.2 got,
        left_within m v x.0 got,
      )

  first_of_all : (n l : ℕ) → is_first_write (ws n) l ≡ true → IsFirstOfAll m n l
  first_of_all n l e =
      record { least = λ k v i. first_least (ws n) l v (tables.writes.grouped.rising n) e (indexed n k v i) }

  not_first : (n l : ℕ) → Contains (ws n) l → is_first_write (ws n) l ≡ false → IsFirstOfAll m n l → ⊥
  not_first n l c e f = by (ws n) refl
    where
      by : (us : List ℕ) → ws n ≡ us → ⊥
      by [] s = none_in l (subst (λ xs. Contains xs l) s c)
      by (u ∷ us) s =
          let rising = subst AreRising s (tables.writes.grouped.rising n) in
          let low : u ≤ l = first_low u us l rising (subst (λ xs. Contains xs l) s c) in
          let i = has_index n u (subst (λ xs. Contains xs u) (sym s) (first_in u us)) in
          let high : l ≤ u = f.least i.0 u i.1 in
          not_both (is_first_write (ws n) l) (ap (λ xs. is_first_write xs l) s ∙ eq-eqb u l (omega (arith, low, high))) e

  number_by_first : (n l : ℕ) → Contains (ws n) l → IsByFirst m free n l (the_number n l)
  number_by_first n l c =
      ⊎_elim (λ e. subst (IsByFirst m free n l) (sym (number_by n l true e)) (kept (first_of_all n l e)))
      (λ e. subst (IsByFirst m free n l) (sym (number_by n l false e)) (given (not_first n l c e))) (cases_Bool (is_first_write (ws n) l))

  first_of_web : (r : Reg) → IsRegister m r → r.loc ≡ loc.Unset → (from : List Instr) → IsWrite m r.number from → (v : ℕ) →
      find_at (listed_writes t.writes) (length from) (ws r.number) ≡ Some v → IsFirstOfWeb m r.number from (slice_index tables.labels v)
  first_of_web r i u from x v found =
      let n = r.number in
      let cv = at_known (length from) n v found in
      let z = label_write n v cv in
      let k = has_index n (slice_index tables.labels v) (label_among n v cv) in
      let left : z.0.left ≡ k.0 =
      ap (λ (x : Write). x.left) (some_is z.0 (record { left = k.0; number = n })
      (sym (subst (λ xs. slice_get xs (slice_index tables.labels v) ≡ Some z.0) tables.writes.all z.1) ∙ k.1)) in
      record {
        first = code_after m z.0.left;
        index = subst (λ k. HasIndex m n k (slice_index tables.labels v))
            (sym left ∙ sym (length_after z.0.left (subst (λ k. k ≤ length m.code) (sym left) k.2))) k.1;
        joined = label_chain r i u from x v found (slice_index tables.labels v) refl z.0 z.1;
        least = λ to w chain index.
            let cw = indexed n (length to) w index in
            let there = subst (λ xs. slice_get xs w ≡ Some (record { left = length to; number = n })) (sym tables.writes.all) index in
            let f = finds_first (listed_writes t.writes) (length to) (ws n) w (record { left = length to; number = n })
            (tables.writes.grouped.rising n) cw there refl in
            let cf = at_known (length to) n f.0 f.1 in
            let same : the_number n (slice_index tables.labels v) ≡ the_number n (slice_index tables.labels f.0) =
            sym (ap (name_of t.names.items n) found ∙ name_known n v cv) ∙ chained_equal m names agreeing chain
            ∙ (ap (name_of t.names.items n) f.1 ∙ name_known n f.0 cf) in
            let one = label_is n (slice_index tables.labels v) (slice_index tables.labels f.0) (numbers r i) same in
            let low = label_low n f.0 cf in let le = f.2 in omega (arith, one, low, le);
      }
    where
      length_after : (k : ℕ) → k ≤ length m.code → length (code_after m k) ≡ k
      length_after k le = let e = length-drop (length m.code - k) m.code in omega (arith, le, e)

  unread : (i : Instr) (next : List Instr) (n : ℕ) → StandsAsInstr i next m.code → ((from : List Instr) → WriteReaches m n from (i ∷ next) → ⊥) →
      names.read (length next) n ≡ n
  unread i next n s none =
      by (find_coming (set_in_row t.rows.rows.items (length m.code - 1 - length next)) (ws n)) refl
    where
      by : (o : Option ℕ) → find_coming (set_in_row t.rows.rows.items (length m.code - 1 - length next)) (ws n) ≡ o → names.read (length next) n ≡ n
      by None e = ap (name_of t.names.items n) e
      by (Some w) e =
          let p : ℕ = length m.code - 1 - length next in
          let f = found_coming (set_in_row t.rows.rows.items p) (ws n) w e in
          let x = tables.reaching.sound p w (under_end (length m.code) (length next)) f.comes in
          let y = tables.writes.grouped.sound n w f.among in
          let number : x.0.number ≡ n = ap (λ (x : Write). x.number) (some_is x.0 y.0 (sym x.1 ∙ y.1)) ∙ y.2 in
          absurd (none (code_after m x.0.left)
          (subst (λ n. WriteReaches m n (code_after m x.0.left) (i ∷ next)) number
          (subst (WriteReaches m x.0.number (code_after m x.0.left)) (code_there s) x.2)))
        where
          under_end : (a b : ℕ) → a - 1 - b ≤ a
          under_end a b = omega arith

  -- ---- how large numbers are

  module _ (least : (b : ℕ) → ((r : Reg) → IsRegister m r → r.number < b) → free ≤ b) where
    small_name : (s : Size) → HasSize m s → (r : Reg) → IsRegister m r → (o : Option ℕ) →
        ((w : ℕ) → o ≡ Some w → Contains (ws r.number) w) →
        name_of t.names.items r.number o < s.registers + (s.operands + length m.params)
    small_name s h r i None known = let lt = h.numbers r i in omega (arith, lt)
    small_name s h r i (Some w) known =
        let c = known w refl in
        subst (λ k. k < s.registers + (s.operands + length m.params)) (sym (name_known r.number w c))
        (⊎_elim
        (λ e.
        let lt = h.numbers r i in
        subst (λ k. k < s.registers + (s.operands + length m.params)) (sym e) (omega (arith, lt)))
        (λ e.
        let x = label_write r.number w c in
        let lt : slice_index tables.labels w < length (listed_writes t.writes) =
        slice_get_within (listed_writes t.writes) (slice_index tables.labels w) x.0 x.1 in
        let few = few_writes m in
        let all = ap length tables.writes.all in
        let ops = h.operands in
        let low = least s.registers h.numbers in
        subst (λ k. k < s.registers + (s.operands + length m.params)) (sym e) (omega (arith, lt, few, all, ops, low)))
        (kept_or r.number (slice_index tables.labels w)))

    pub is_dense : IsDense m names
    is_dense =
        record {
          read = λ s h r i k. small_name s h r i _ (coming_known (length m.code - 1 - k) r.number);
          write = λ s h r i k. small_name s h r i _ (at_known k r.number);
        }

    pub by_first : AreByFirst m names
    by_first =
        record {
          free = free;
          above = numbers;
          least = least;
          written = λ r i u from x.
              let v = write_at r i u x in
              let cv = at_known (length from) r.number v.0 v.1 in
              record {
                first = slice_index tables.labels v.0;
                is = first_of_web r i u from x v.0 v.1;
                by_first = subst (IsByFirst m free r.number (slice_index tables.labels v.0))
                    (sym (ap (name_of t.names.items r.number) v.1 ∙ name_known r.number v.0 cv))
                    (number_by_first r.number (slice_index tables.labels v.0) (label_among r.number v.0 cv));
              };
          unwritten = λ i next n s a none. unread i next n s none;
        }

    pub is_split : IsSplit m (renamed names m)
    is_split =
        record { names = names; is = refl; naming = is_naming; joins = joins_exactly; by_first = by_first; dense = is_dense }

-- the whole function, with its code renamed so
pub split_done : (m : Mach) (free : ℕ) (t : Tables) (last : ℕ) (code : List Instr) → WellFormed m → WellPlaced m →
    ((r : Reg) → IsRegister m r → r.number < free) →
    ((b : ℕ) → ((r : Reg) → IsRegister m r → r.number < b) → free ≤ b) → AreSplitTables m free t → last ≡ length m.code →
    code ≡ renamed_code (naming t last) m.code → IsSplit m (record m { code = code })
split_done m free t last code formed placed numbers least tables e made =
    subst (λ xs. IsSplit m (record m { code = xs })) (sym (made ∙ ap (λ k. renamed_code (naming t k) m.code) e))
    (is_split m free t formed placed numbers tables least)
