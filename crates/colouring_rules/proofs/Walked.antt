-- What is live, joined and reached in a function whose open registers have been given places was so before: where an
-- operation destroys less than it did, nothing that is live is the difference.
use Rattle.std.proofs.Common.{◌≡◌, ℕ, Bool, true, false, cond, not, ◌&&◌, ◌⊎◌, ⊎_elim, List, [], ◌∷◌, refl, sym, ap, ◌∙◌, subst}
use Rattle.std.proofs.lemmas.Bool.{cases_Bool, eq-eqb, eqb-true, both_ways, and_parts, or_left, or_right, or_cases}
use Rattle.std.specs.List.{Contains}
use Rattle.std.specs.Prelude.{nat_eq}
use Rattle.bs_words.specs.declared.types.Loc.{Loc}
use Rattle.bs_words.specs.declared.types.Loc.TheVariants as loc
use Rattle.bs_words.proofs.Lists.{none_in, first_in, later_in, in_cons, mapped}
use Rattle.mach_ir.specs.Meaning.{Destroyed, Nothing, Temporaries, Everything, destroyed_by, is_destroyed, same_colour, is_at_one_of, killed_among, killed_by, killed}
use Rattle.mach_ir.specs.Placed.{colour_numbers, WellPlaced}
use Rattle.mach_ir.specs.Walks.{AmongRegisters, first, later, goes, Writes, Live, read, on, aside, LiveAfter, after_step, LiveAcross, across_step, across_raise, IsRegister, is_colour, is_in_code, StandsAsInstr, NoAddrLive, IsMove, is_move, Meets, at_write, at_params, Joined, one_way, other_way}
use Rattle.mach_ir.specs.declared.reg.Reg.{Reg}
use Rattle.mach_ir.specs.declared.mach.Instr.{Instr}
use Rattle.mach_ir.specs.declared.mach.Mach.{Mach}
use Rattle.mach_laws.specs.Expand.{expand, Ending, all}
use Rattle.mach_laws.proofs.InPlace as text
use Rattle.mach_laws.proofs.InPlace.{was_main}
use Rattle.mach_laws.proofs.Places.{stands_of, ending_of, results_in}
use Rattle.mach_laws.proofs.Among.{left_among, right_among, split_among, among_of}
use Rattle.colouring_rules.specs.Places.{LocationAssignment, IsProperAssignment, located_register, all_placed, placed_instr, placed_code, with_places}
use Rattle.colouring_rules.proofs.Open.{machine_open, machine_slot}
use Rattle.colouring_rules.proofs.Lists.{was}
use Rattle.colouring_rules.proofs.Text.{was_register}
use Rattle.colouring_rules.proofs.Instructions.{among_there, among_back, again, same_ops, alone, as_expanded}

-- ---- colours

same_colour_is : (k l : Loc) → same_colour k l ≡ true → (n : ℕ) × (k ≡ loc.Machine n) × (l ≡ loc.Machine n)
same_colour_is (loc.Machine a) (loc.Machine b) e = (a, refl, ap loc.Machine (sym (eqb-true a b e)))
same_colour_is loc.Unset l e = absurd (not_true e)
  where
    not_true : false ≡ true → ⊥
    not_true e = cc
same_colour_is (loc.Slot a) l e = absurd (not_true e)
  where
    not_true : false ≡ true → ⊥
    not_true e = cc
same_colour_is (loc.Machine a) loc.Unset e = absurd (not_true e)
  where
    not_true : false ≡ true → ⊥
    not_true e = cc
same_colour_is (loc.Machine a) (loc.Slot b) e = absurd (not_true e)
  where
    not_true : false ≡ true → ⊥
    not_true e = cc

-- a register of these at the same colour
record StandsAt (l : Loc) (rs : List Reg) : Type 0 where
  reg : Reg
  among : Contains rs reg
  colour : ℕ
  place : l ≡ loc.Machine colour
  there : reg.loc ≡ loc.Machine colour

at_one : (l : Loc) (rs : List Reg) → is_at_one_of l rs ≡ true → StandsAt l rs
at_one l [] e = absurd (both_ways false refl e)
at_one l (r ∷ rs) e =
    ⊎_elim
    (λ h.
    let s = same_colour_is l r.loc h in
    record { reg = r; among = first_in r rs; colour = s.0; place = s.1; there = s.2 })
    (λ h.
    let s = at_one l rs h in
    record { reg = s.reg; among = later_in r s.reg rs s.among; colour = s.colour; place = s.place; there = s.there })
    (or_cases (same_colour l r.loc) (is_at_one_of l rs) e)

same_machine : (k l : Loc) (n : ℕ) → k ≡ loc.Machine n → l ≡ loc.Machine n → same_colour k l ≡ true
same_machine k l n e h =
    ap (λ k. same_colour k l) e ∙ ap (λ l. same_colour (loc.Machine n) l) h ∙ eq-eqb n n refl

in_one : (l : Loc) (rs : List Reg) (r : Reg) (n : ℕ) → Contains rs r → l ≡ loc.Machine n → r.loc ≡ loc.Machine n →
    is_at_one_of l rs ≡ true
in_one l [] r n c e h = absurd (none_in r c)
in_one l (k ∷ rs) r n c e h =
    ⊎_elim
    (λ s. or_left (same_colour l k.loc) (is_at_one_of l rs) (same_machine l k.loc n e (ap (λ (r : Reg). r.loc) s ∙ h)))
    (λ d. or_right (same_colour l k.loc) (is_at_one_of l rs) (in_one l rs r n d e h)) (in_cons k r rs c)

-- ---- what is destroyed

record IsKilled (n : ℕ) (rs : List Reg) (d : Destroyed) (results : List Reg) : Type 0 where
  reg : Reg
  among : Contains rs reg
  number : reg.number ≡ n
  gone : is_destroyed d reg.loc ≡ true
  free : is_at_one_of reg.loc results ≡ false

and_right : (a b : Bool) → a && not b ≡ true → b ≡ false
and_right true true e = sym e
and_right true false e = refl
and_right false b e = absurd (both_ways false refl e)

both_so : (a b : Bool) → a ≡ true → b ≡ false → a && not b ≡ true
both_so true true e h = sym h
both_so true false e h = refl
both_so false b e h = absurd (both_ways false refl e)

if_killed : (n : ℕ) (r : Reg) (rs : List Reg) (d : Destroyed) (results others : List Reg) (b : Bool) →
    is_destroyed d r.loc && not (is_at_one_of r.loc results) ≡ b → AmongRegisters n (cond b (r ∷ others) others) →
    (AmongRegisters n others → IsKilled n rs d results) → IsKilled n (r ∷ rs) d results
if_killed n r rs d results others true e (first h) old =
    record {
      reg = r;
      among = first_in r rs;
      number = h;
      gone = (and_parts (is_destroyed d r.loc) (not (is_at_one_of r.loc results)) e).0;
      free = and_right (is_destroyed d r.loc) (is_at_one_of r.loc results) e;
    }
if_killed n r rs d results others true e (later a) old =
    let k = old a in
    record { reg = k.reg; among = later_in r k.reg rs k.among; number = k.number; gone = k.gone; free = k.free }
if_killed n r rs d results others false e a old =
    let k = old a in
    record { reg = k.reg; among = later_in r k.reg rs k.among; number = k.number; gone = k.gone; free = k.free }

killed_is : (n : ℕ) (rs : List Reg) (d : Destroyed) (results : List Reg) → AmongRegisters n (killed_among rs d results) →
    IsKilled n rs d results
killed_is n [] d results a = elim a [ ]
killed_is n (r ∷ rs) d results a =
    if_killed n r rs d results (killed_among rs d results) (is_destroyed d r.loc && not (is_at_one_of r.loc results)) refl a
    (killed_is n rs d results)

killed_by_is : (n : ℕ) (rs : List Reg) (d : Destroyed) (results : List Reg) → AmongRegisters n (killed_by rs d results) →
    IsKilled n rs d results
killed_by_is n rs Nothing results a = elim a [ ]
killed_by_is n rs Temporaries results a = killed_is n rs Temporaries results a
killed_by_is n rs Everything results a = killed_is n rs Everything results a

later_cond : (n : ℕ) (r : Reg) (rs : List Reg) (b : Bool) → AmongRegisters n rs → AmongRegisters n (cond b (r ∷ rs) rs)
later_cond n r rs true a = later a
later_cond n r rs false a = a

killed_has : (r : Reg) (rs : List Reg) (d : Destroyed) (results : List Reg) → Contains rs r → is_destroyed d r.loc ≡ true →
    is_at_one_of r.loc results ≡ false → AmongRegisters r.number (killed_among rs d results)
killed_has r [] d results c e h = absurd (none_in r c)
killed_has r (k ∷ rs) d results c e h =
    ⊎_elim
    (λ s.
    subst (λ b. AmongRegisters r.number (cond b (k ∷ killed_among rs d results) (killed_among rs d results)))
    (sym
    (both_so (is_destroyed d k.loc) (is_at_one_of k.loc results)
    (ap (λ (x : Reg). is_destroyed d x.loc) s ∙ e)
    (ap (λ (x : Reg). is_at_one_of x.loc results) s ∙ h)))
    (first (ap (λ (x : Reg). x.number) s)))
    (λ z.
    later_cond r.number k (killed_among rs d results) (is_destroyed d k.loc && not (is_at_one_of k.loc results))
    (killed_has r rs d results z e h))
    (in_cons k r rs c)

killed_by_has : (r : Reg) (rs : List Reg) (d : Destroyed) (results : List Reg) → Contains rs r → is_destroyed d r.loc ≡ true →
    is_at_one_of r.loc results ≡ false → AmongRegisters r.number (killed_by rs d results)
killed_by_has r rs Nothing results c e h = absurd (both_ways false refl e)
killed_by_has r rs Temporaries results c e h = killed_has r rs Temporaries results c e h
killed_by_has r rs Everything results c e h = killed_has r rs Everything results c e h

-- ---- members of the code

-- where a function is well placed, its colours are in machine registers
pub colour_place : {m : Mach} → WellPlaced m → (r : Reg) → Contains m.colours r → (n : ℕ) × (r.loc ≡ loc.Machine n)
colour_place {m} well r c =
    let l = mapped (λ (r : Reg). r.loc) m.colours r c in
    let w = was loc.Machine colour_numbers r.loc (subst (λ ls. Contains ls r.loc) ((well.colours).each) l) in (w.what, sym w.same)

module _ (m : Mach) (place : LocationAssignment) (well : WellPlaced m) (is : IsProperAssignment m place) where
  abbrev q : Mach
  q = with_places place m

  -- ---- fixed places

  pub machine_stays : (r : Reg) → IsRegister m r → (n : ℕ) → r.loc ≡ loc.Machine n → place r ≡ loc.Machine n
  machine_stays r i n e = ⊎_elim (λ h. absurd (machine_open e h)) (λ h. h ∙ e) (is.fixed r i)

  pub colour_stays : (r : Reg) → Contains m.colours r → place r ≡ r.loc
  colour_stays r c = let p = colour_place well r c in machine_stays r (is_colour c) p.0 p.1 ∙ sym p.1

  -- ---- an operation destroys no more than it did

  pub fewer_killed : {n : ℕ} {i : Instr} {next : List Instr} → StandsAsInstr i next m.code → AmongRegisters n (killed q (placed_instr place i)) →
      AmongRegisters n (killed m i)
  fewer_killed {n} {i} s a =
      let k = killed_by_is n (all_placed place m.colours) (destroyed_by i.op) (all_placed place i.results) a in
      let w = was (located_register place) m.colours k.reg k.among in
      let same : (k.reg).loc ≡ (w.what).loc = sym (ap (λ (r : Reg). r.loc) w.same) ∙ colour_stays w.what w.among in
      subst (λ n. AmongRegisters n (killed m i)) (ap (λ (r : Reg). r.number) w.same ∙ k.number)
      (killed_by_has w.what m.colours (destroyed_by i.op) i.results w.among
      (ap (is_destroyed (destroyed_by i.op)) (sym same) ∙ k.gone)
      (⊎_elim
      (λ e. absurd (both_ways (is_at_one_of (k.reg).loc (all_placed place i.results)) k.free (there (k.reg).loc same (at_one (w.what).loc i.results e))))
      (λ e. e) (cases_Bool (is_at_one_of (w.what).loc i.results))))
    where
      there : {w : Loc} (l : Loc) → l ≡ w → StandsAt w i.results → is_at_one_of l (all_placed place i.results) ≡ true
      there l same t =
          in_one l (all_placed place i.results) (located_register place t.reg) t.colour (mapped (located_register place) i.results t.reg t.among)
          (same ∙ t.place)
          (machine_stays t.reg (is_in_code (results_in s t.among)) t.colour t.there)

  -- what is no longer destroyed is not live then
  still_killed : {n : ℕ} {i : Instr} {next : List Instr} → StandsAsInstr i next m.code → LiveAfter m n i next →
      AmongRegisters n (killed m i) → Writes q (placed_instr place i) n
  still_killed {n} {i} {next} s v a = by (killed_by_is n m.colours (destroyed_by i.op) i.results a)
    where
      by_result : (k : IsKilled n m.colours (destroyed_by i.op) i.results) → StandsAt (place k.reg) (all_placed place i.results) →
          Writes q (placed_instr place i) n
      by_result k t =
          let w = was (located_register place) i.results t.reg t.among in
          let register = is_in_code (results_in s w.among) in
          ⊎_elim
          (λ e.
          left_among (all_placed place i.results) (killed q (placed_instr place i))
          (subst (λ n. AmongRegisters n (all_placed place i.results)) (eqb-true (w.what).number n e)
          (among_there place i.results (among_of w.what i.results w.among))))
          (λ e.
          let joined : Joined m (w.what).number (k.reg).number =
          subst (λ b. Joined m (w.what).number b) (sym k.number)
          (one_way (λ h. both_ways (nat_eq (w.what).number n) e (eq-eqb (w.what).number n h))
          (at_write i next s (left_among i.results (killed m i) (among_of w.what i.results w.among)) v
          (λ move. no_move (k.reg).loc i k.gone move))) in
          let share = is.apart w.what k.reg register (is_colour k.among) joined
          (λ u. machine_open t.there (sym (ap (λ (r : Reg). r.loc) w.same) ∙ u))
          (ap (λ (r : Reg). r.loc) w.same ∙ t.there ∙ sym t.place) in
          absurd
          (machine_slot t.there (sym (ap (λ (r : Reg). r.loc) w.same) ∙ share.1)))
          (cases_Bool (nat_eq (w.what).number n))
        where
          no_move : {from to : ℕ} (l : Loc) (i : Instr) → is_destroyed (destroyed_by i.op) l ≡ true → IsMove from to i → ⊥
          no_move l i e (is_move a b) = both_ways false refl e

      by : IsKilled n m.colours (destroyed_by i.op) i.results → Writes q (placed_instr place i) n
      by k =
          ⊎_elim (λ e. by_result k (at_one (place k.reg) (all_placed place i.results) e))
          (λ e.
          right_among (all_placed place i.results) (killed q (placed_instr place i))
          (subst (λ n. AmongRegisters n (killed q (placed_instr place i))) k.number
          (killed_by_has (located_register place k.reg) (all_placed place m.colours) (destroyed_by i.op) (all_placed place i.results)
          (mapped (located_register place) m.colours k.reg k.among)
          (ap (is_destroyed (destroyed_by i.op)) (colour_stays k.reg k.among) ∙ k.gone) e)))
          (cases_Bool (is_at_one_of (place k.reg) (all_placed place i.results)))

  pub fewer_written : {n : ℕ} {i : Instr} {next : List Instr} → StandsAsInstr i next m.code → Writes q (placed_instr place i) n →
      Writes m i n
  fewer_written {n} {i} s w =
      ⊎_elim (λ a. left_among i.results (killed m i) (among_back place i.results a))
      (λ a. right_among i.results (killed m i) (fewer_killed s a))
      (split_among n (all_placed place i.results) (killed q (placed_instr place i)) w)

  pub still_written : {n : ℕ} {i : Instr} {next : List Instr} → StandsAsInstr i next m.code → LiveAfter m n i next → Writes m i n →
      Writes q (placed_instr place i) n
  still_written {n} {i} s v w =
      ⊎_elim
      (λ a. left_among (all_placed place i.results) (killed q (placed_instr place i)) (among_there place i.results a))
      (λ a. still_killed s v a) (split_among n i.results (killed m i) w)

  -- ---- walks

  code_is : (with_places place m).code ≡ expand (alone place) m.code
  code_is = as_expanded place m.code

  -- what it does not write now it did not write, as far as it is live then
  free_before : {n : ℕ} {i : Instr} {next : List Instr} → Ending (i ∷ next) m.code → LiveAfter m n i next →
      (Writes q (placed_instr place i) n → ⊥) → Writes m i n → ⊥
  free_before e v free = λ w. free (still_written (stands_of e) v w)

  carries : text.Carries (again place) (same_ops place) m q code_is (Live m)
  carries =
      record {
        reads = λ n i next e a. read (among_back place i.args a);
        steps = λ n i next t e free o v. on (free_before e (after_step (goes t o) v) free) (goes t o) v;
        rises = λ n i next l r v. aside r v;
      }

  -- what is live there was live
  pub live_before : {n : ℕ} {code : List Instr} → Ending code m.code → Live q n (placed_code place code) → Live m n code
  live_before {code = code} e v =
      text.live_back (again place) (same_ops place) m q code_is (Live m) carries v code e (as_expanded place code)

  -- the same of what follows an instruction
  there : (P : Instr → List Instr → Type 0) {j : Instr} {ys : List Instr} (i : Instr) (next : List Instr) →
      placed_instr place i ≡ j → placed_code place next ≡ ys → P j ys → P (placed_instr place i) (expand (alone place) next)
  there P {j} i next e h p =
      subst (λ (j : Instr). P j (expand (alone place) next)) (sym e)
      (subst (P j) (sym h ∙ as_expanded place next) p)

  after_back : {n : ℕ} {j : Instr} {ys : List Instr} (i : Instr) (next : List Instr) → Ending (i ∷ next) m.code →
      placed_instr place i ≡ j → placed_code place next ≡ ys → LiveAfter q n j ys → LiveAfter m n i next
  after_back {n} i next ending e h v =
      text.after_back (again place) (same_ops place) m q code_is (Live m) carries ending (λ t o v. after_step (goes t o) v)
      (there (LiveAfter q n) i next e h v)

  pub across_back : {n : ℕ} {j : Instr} {ys : List Instr} (i : Instr) (next : List Instr) → Ending (i ∷ next) m.code →
      placed_instr place i ≡ j → placed_code place next ≡ ys → LiveAcross q n j ys → LiveAcross m n i next
  across_back {n} i next ending e h v =
      text.across_back (again place) (same_ops place) m q code_is (Live m) carries ending
      (λ t free o v. across_step (free_before ending (after_step (goes t o) v) free) (goes t o) v)
      (λ l r v. across_raise r v) (there (LiveAcross q n) i next e h v)

  -- ---- the graph

  move_there : {k n : ℕ} {i : Instr} → IsMove k n i → IsMove k n (placed_instr place i)
  move_there (is_move e h) = is_move e h

  meets_back : {n k : ℕ} → Meets q n k → Meets m n k
  meets_back {n} {k} (at_write j ys s w v apart) =
      let o = was_main (again place) m.code j ys (subst (StandsAsInstr j ys) code_is s) in
      at_write o.instr o.next o.stands (fewer_written o.stands (subst (λ (j : Instr). Writes q j n) (sym o.same) w))
      (after_back o.instr o.next (ending_of o.stands) o.same (as_expanded place o.next ∙ sym o.same_next) v)
      (λ move. apart (subst (IsMove k n) o.same (move_there move)))
  meets_back (at_params a v) = at_params (among_back place m.params a) (live_before all v)

  -- what is joined there was joined
  pub joined_before : {n k : ℕ} → Joined q n k → Joined m n k
  joined_before (one_way e h) = one_way e (meets_back h)
  joined_before (other_way e h) = other_way e (meets_back h)

  -- ---- places that are reached

  pub no_addr_before : NoAddrLive m → NoAddrLive (with_places place m)
  no_addr_before none =
      text.no_addr_back (again place) (same_ops place) m q code_is
      (λ i next ending reached frame r is addr v.
      let x = was_register place m r is in
      none.none i next reached frame x.register x.among (ap (λ (r : Reg). r.comp) x.same ∙ addr)
      (subst (λ n. LiveAcross m n i next) (sym (ap (λ (r : Reg). r.number) x.same))
      (across_back i next ending refl (as_expanded place next) v)))
