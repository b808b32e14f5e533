-- Webs in the split function: writes of one number are joined there.
use Rattle.std.proofs.Common.{◌≡◌, ◌≢◌, ℕ, ⊎_elim, List, [], ◌∷◌, length, refl, sym, ap, ◌∙◌, subst}
use Rattle.std.specs.List.{Contains}
use Rattle.bs_words.specs.declared.types.Loc.TheVariants as loc
use Rattle.mach_ir.specs.Meaning.{killed}
use Rattle.mach_ir.specs.Placed.{WellPlaced}
use Rattle.mach_ir.specs.Walks.{AmongRegisters, goes, raises, WalkStep, Raises, Writes, Live, read, on, aside, StandsAsInstr, here, below}
use Rattle.mach_ir.specs.declared.reg.Reg.{Reg}
use Rattle.mach_ir.specs.declared.mach.Instr.{Instr}
use Rattle.mach_ir.specs.declared.mach.Mach.{Mach}
use Rattle.mach_laws.specs.Expand.{Ending, all}
use Rattle.mach_laws.proofs.Places.{ending_from_handler, stands_of, ending_of}
use Rattle.mach_laws.proofs.Walking.{ending_at}
use Rattle.mach_laws.proofs.Among.{split_among, number_among}
use Rattle.split_rules.specs.Renamed.{Naming, renamed_instr, renamed_code, renamed}
use Rattle.split_rules.specs.Split.{IsNaming, JoinsExactly, IsSplit, IsOneWeb}
use Rattle.split_rules.specs.Writes.{WriteReaches, from_entry, from_write, past, past_raise, Chained, same, meets, IsWrite, by_entry, by_instr}
use Rattle.split_rules.proofs.Text.{same_at, same_handler, same_tries, was_at, was_register, named_among, among_named, param_back}
use Rattle.split_rules.proofs.Walked.{new, wrote_new, wrote_old, killed_same, killed_stays, result_back}
use Rattle.split_rules.proofs.Whole.{fixed_colours}

module _ (m : Mach) where
  -- what comes to a code comes to one that the function ends with
  pub comes_ends : {n : ℕ} {from rest : List Instr} → WriteReaches m n from rest → Ending rest m.code
  comes_ends (from_entry a) = all
  comes_ends (from_write s a (goes t o)) = ending_at t (ending_of s)
  comes_ends (past c a (goes t o)) = ending_at t (comes_ends c)
  comes_ends (past_raise c (raises {l = l} b r)) = ending_from_handler l m.code

  pub comes_write : {n : ℕ} {from rest : List Instr} → WriteReaches m n from rest → IsWrite m n from
  comes_write (from_entry a) = by_entry a
  comes_write (from_write s a l) = by_instr s a
  comes_write (past c a l) = comes_write c
  comes_write (past_raise c r) = comes_write c

  module _ (names : Naming) (agree : (i : Instr) (next from : List Instr) (n : ℕ) → StandsAsInstr i next m.code → AmongRegisters n i.args →
      WriteReaches m n from (i ∷ next) → names.read (length next) n ≡ names.write (length from) n) where
    -- two writes that come to where a register is live have one number
    pub live_equal : {n : ℕ} {rest from mid : List Instr} → Live m n rest → WriteReaches m n from rest → WriteReaches m n mid rest →
        names.write (length from) n ≡ names.write (length mid) n
    live_equal {n} {from = from} {mid = mid} (read {i = i} {next = next} a) c d =
        let s = stands_of (comes_ends c) in sym (agree i next from n s a c) ∙ agree i next mid n s a d
    live_equal (on w l v) c d = live_equal v (past c w l) (past d w l)
    live_equal (aside r v) c d = live_equal v (past_raise c r) (past_raise d r)

    pub chained_equal : {n : ℕ} {from to : List Instr} → Chained m n from to →
        names.write (length from) n ≡ names.write (length to) n
    chained_equal same = refl
    chained_equal (meets v c d h) = live_equal v c d ∙ chained_equal h

module _ (m : Mach) (names : Naming) (is : IsNaming m names) (placed : WellPlaced m) where
  abbrev q : Mach
  q = renamed names m

  colour_fixed : (r : Reg) → Contains m.colours r → r.loc ≢ loc.Unset
  colour_fixed = fixed_colours m placed

  abbrev made : List Instr → Instr → Instr
  made = new m names is colour_fixed

  -- ---- walks of the first are walks of the second

  stands_there : {i : Instr} {next : List Instr} (code : List Instr) → StandsAsInstr i next code →
      StandsAsInstr (renamed_instr names (length next) i) (renamed_code names next) (renamed_code names code)
  stands_there (i ∷ is) here = here
  stands_there (j ∷ is) (below s) = below (stands_there is s)
  stands_there [] s = elim s [ ]

  leads_there : {i : Instr} {next to : List Instr} → WalkStep m i next to →
      WalkStep q (made next i) (renamed_code names next) (renamed_code names to)
  leads_there {i} {next} (goes t o) =
      subst (WalkStep q (made next i) (renamed_code names next)) (same_at names m.code next t) (goes t o)

  raises_there : {i : Instr} {next to : List Instr} → Raises m i next to →
      Raises q (made next i) (renamed_code names next) (renamed_code names to)
  raises_there {i} {next} (raises {l = l} b r) =
      subst (Raises q (made next i) (renamed_code names next)) (same_handler names l m.code)
      (raises b (same_tries names (i ∷ next) ∙ r))

  -- a register of the first, by the number that it has in one web
  module _ (n x : ℕ) (back : is.back x ≡ n) where
    unwritten : {i : Instr} {next : List Instr} → Ending (i ∷ next) m.code → (Writes m i n → ⊥) → Writes q (made next i) x → ⊥
    unwritten {i} ending free w =
        free (subst (Writes m i) back (wrote_old m names is colour_fixed (stands_of ending) w))

    live_there : {rest from : List Instr} → Live m n rest → WriteReaches m n from rest → names.write (length from) n ≡ x →
        Live q x (renamed_code names rest)
    live_there {from = from} (read {i = i} {next = next} a) c e =
        read
        (subst (λ y. AmongRegisters y (made next i).args) (is.agree i next from n (stands_of (comes_ends m c)) a c ∙ e)
        (named_among (names.read (length next)) i.args a))
    live_there (on w l v) c e = on (unwritten (comes_ends m c) w) (leads_there l) (live_there v (past c w l) e)
    live_there (aside r v) c e = aside (raises_there r) (live_there v (past_raise c r) e)

    comes_there : {rest from : List Instr} → WriteReaches m n from rest → names.write (length from) n ≡ x →
        WriteReaches q x (renamed_code names from) (renamed_code names rest)
    comes_there (from_entry a) e =
        from_entry (subst (λ y. AmongRegisters y m.params) (sym (is.entry n a) ∙ e) a)
    comes_there (from_write {i = i} {next = next} s a l) e =
        from_write (stands_there m.code s)
        (subst (Writes q (made next i)) e (wrote_new m names is colour_fixed i next a)) (leads_there l)
    comes_there (past c w l) e = past (comes_there c e) (unwritten (comes_ends m c) w) (leads_there l)
    comes_there (past_raise c r) e = past_raise (comes_there c e) (raises_there r)

    chained_there : {from to : List Instr} → Chained m n from to → names.write (length from) n ≡ x →
        Chained q x (renamed_code names from) (renamed_code names to)
    chained_there same e = same
    chained_there (meets {from = from} {mid = mid} v c d h) e =
        let f = sym (live_equal m names is.agree v c d) ∙ e in
        meets (live_there v c e) (comes_there c e) (comes_there d f) (chained_there h f)

  -- ---- writes of the second were writes of the first

  record WasWrite (x : ℕ) (from : List Instr) : Type 0 where
    old : List Instr
    same_code : renamed_code names old ≡ from
    write : IsWrite m (is.back x) old
    number : names.write (length old) (is.back x) ≡ x

  was_write : {x : ℕ} {from : List Instr} → IsWrite q x from → WasWrite x from
  was_write {x} (by_entry a) =
      let r = number_among m.params a in
      let stays : is.back x ≡ x =
      subst (λ y. is.back y ≡ y) r.2 (param_back m names is colour_fixed r.0 r.1) in
      record {
        old = m.code;
        same_code = refl;
        write = by_entry (subst (λ y. AmongRegisters y m.params) (sym stays) a);
        number = ap (names.write (length m.code)) stays ∙ is.entry x a;
      }
  was_write {x} (by_instr s w) =
      let o = was_at names m.code s in
      let there : Writes q (made o.after o.instr) x = subst (λ (j : Instr). Writes q j x) (sym o.same) w in
      record {
        old = o.after;
        same_code = o.same_after;
        write = by_instr o.stands (wrote_old m names is colour_fixed o.stands there);
        number = number_is o.instr o.after o.stands there;
      }
    where
      number_is : (i : Instr) (next : List Instr) → StandsAsInstr i next m.code → Writes q (made next i) x →
          names.write (length next) (is.back x) ≡ x
      number_is i next s w =
          ⊎_elim
          (λ a.
          let k = among_named (names.write (length next)) i.results a in
          ap (names.write (length next))
          (ap is.back (sym k.2) ∙ result_back m names is colour_fixed s k.1 (length next))
          ∙ k.2)
          (λ a.
          let k : AmongRegisters x (killed m i) = subst (λ ks. AmongRegisters x ks) (killed_same m names is colour_fixed next i) a in
          let stays = killed_stays m names is colour_fixed i (length next) k in
          ap (names.write (length next)) stays.1 ∙ stays.0)
          (split_among x (made next i).results (killed q (made next i)) w)

  pub one_web : JoinsExactly m names → IsOneWeb (renamed names m)
  one_web joins =
      record {
        one = λ r i u from to x y.
            let w = was_register m names is colour_fixed r i in
            let one = was_write x in
            let other = was_write y in
            let n = w.register.number in
            let unset : w.register.loc ≡ loc.Unset = ap (λ (r : Reg). r.loc) w.same ∙ u in
            let chain =
            (joins.exact w.register w.among unset one.old other.old (subst (λ n. IsWrite m n one.old) w.back one.write)
            (subst (λ n. IsWrite m n other.old) w.back other.write)).0
            (subst (λ n. names.write (length one.old) n ≡ names.write (length other.old) n) w.back (one.number ∙ sym other.number)) in
            subst (λ xs. Chained q r.number xs to) one.same_code
            (subst (λ ys. Chained q r.number (renamed_code names one.old) ys) other.same_code
            (chained_there n r.number w.back chain
            (subst (λ n. names.write (length one.old) n ≡ r.number) w.back one.number)));
      }

pub split_webs : (m q : Mach) → WellPlaced m → IsSplit m q → IsOneWeb q
split_webs m q placed split =
    subst IsOneWeb (sym split.is) (one_web m split.names split.naming placed split.joins)
