-- The plan that the tables tell is the chosen one, and the code is that of the plan.
use Rattle.std.proofs.Common.{◌≡◌, ℕ, suc, ◌+◌, ◌-◌, ◌≤◌, Bool, true, false, cond, ◌&&◌, ◌||◌, ⊎_elim, List, [], ◌∷◌, ◌++◌, map, length, drop, refl, sym, ap, ◌∙◌, subst, arith}
use Rattle.std.proofs.lemmas.Bool.{cases_Bool, eq-eqb, eqb-true, and_parts, or_cases, or_left, or_right, and_from}
use Rattle.std.specs.List.{Contains}
use Rattle.std.specs.Prelude.{nat_eq}
use Rattle.std.proofs.lemmas.List.Elements.{All-contains}
use Rattle.bs_bits.specs.Set.{has}
use Rattle.dataflow.specs.Rows.{set_in_row}
use Rattle.mach_ir.specs.Formed.{IsFormedInstruction, WellFormed}
use Rattle.mach_ir.specs.Meaning.{killed, registers_written, code_at}
use Rattle.mach_ir.specs.Walks.{goes, WalkStep, Writes, is_in_code, StandsAsInstr, here, below}
use Rattle.mach_ir.specs.declared.reg.Reg.{Reg}
use Rattle.mach_ir.specs.declared.mach.Instr.{Instr}
use Rattle.mach_ir.specs.declared.mach.Mach.{Mach}
use Rattle.mach_laws.specs.Expand.{expand}
use Rattle.mach_laws.specs.Graph.{code_index, numbers_of_registers, next_places}
use Rattle.mach_laws.proofs.Walking.{place_is, among_numbers, in_numbers, place_within, ending_leads}
use Rattle.mach_laws.proofs.Places.{ending_short, ending_of, args_in, contains_of}
use Rattle.mach_laws.proofs.Among.{left_among, among_of}
use Rattle.split_rules.specs.Writes.{WriteReaches, from_entry, from_write, past, past_raise}
use Rattle.spill_rules.specs.Chosen.{IsReloaded, ReloadsAt, StoresAt, IsSpillChoice, IsSpilled}
use Rattle.spill_rules.specs.Spilled.{SpillPlan, reload, spill, reloads_of, spills_of, operand_registers, spilled_instr}
use Rattle.spill_rules.proofs.Chosen.{goes_on, not_whole}
use Rattle.spill_rules.proofs.Text.{all_operands, all_results}
use Rattle.bs_words.proofs.Lists.{none_in, first_in, later_in, in_cons}
use Rattle.spill.specs.Copies as made
use Rattle.spill.specs.Copies.{is_reloaded, reloads_at, spills_at, instr_with_copies}
use Rattle.spill.specs.Graphs.{reloaded_among}
use Rattle.spill.specs.Tables.{Wanted, here, on, aside, AreSpillTables}
use Rattle.spill.specs.declared.tables.Tables.{Tables}
use Rattle.liveness.proofs.Steps.{Steps, steps_of, steps_to}
use Rattle.spill.proofs.WantedFlow.{in_reloaded, reloaded_in, reloaded_here, here_reloaded}
use Rattle.bs_words.proofs.Truths.{not_both}

-- ---- tests on lists

abbrev is_in : ℕ → List ℕ → Bool
is_in n [] = false
is_in n (k ∷ ks) = nat_eq k n || is_in n ks

abbrev some_has : List (List Bool) → ℕ → List ℕ → Bool
some_has rows n [] = false
some_has rows n (q ∷ qs) = has (set_in_row rows q) n || some_has rows n qs

in_contains : (n : ℕ) (ks : List ℕ) → is_in n ks ≡ true → Contains ks n
in_contains n [] e = absurd (not_both false e refl)
in_contains n (k ∷ ks) e =
    ⊎_elim (λ h. subst (Contains (k ∷ ks)) (eqb-true k n h) (first_in k ks)) (λ h. later_in k n ks (in_contains n ks h))
    (or_cases (nat_eq k n) (is_in n ks) e)

contains_in : (n : ℕ) (ks : List ℕ) → Contains ks n → is_in n ks ≡ true
contains_in n [] c = absurd (none_in n c)
contains_in n (k ∷ ks) c =
    ⊎_elim (λ e. or_left (nat_eq k n) (is_in n ks) (eq-eqb k n e)) (λ d. or_right (nat_eq k n) (is_in n ks) (contains_in n ks d))
    (in_cons k n ks c)

has_some : (rows : List (List Bool)) (n : ℕ) (qs : List ℕ) → some_has rows n qs ≡ true → (q : ℕ) × Contains qs q × (has (set_in_row rows q) n ≡ true)
has_some rows n [] e = absurd (not_both false e refl)
has_some rows n (q ∷ qs) e =
    ⊎_elim (λ h. (q, first_in q qs, h)) (λ h. let x = has_some rows n qs h in (x.0, later_in q x.0 qs x.1, x.2))
    (or_cases (has (set_in_row rows q) n) (some_has rows n qs) e)

some_of : (rows : List (List Bool)) (n : ℕ) (qs : List ℕ) (q : ℕ) → Contains qs q → has (set_in_row rows q) n ≡ true → some_has rows n qs ≡ true
some_of rows n [] q c h = absurd (none_in q c)
some_of rows n (p ∷ qs) q c h =
    ⊎_elim (λ e. or_left (has (set_in_row rows p) n) (some_has rows n qs) (ap (λ p. has (set_in_row rows p) n) e ∙ h))
    (λ d. or_right (has (set_in_row rows p) n) (some_has rows n qs) (some_of rows n qs q d h)) (in_cons p q qs c)

-- a test of the code that so many instructions come after, its first one not counted
abbrev at_length : ℕ → (List Instr → Bool) → List Instr → Bool
at_length k f [] = false
at_length k f (i ∷ is) = cond (nat_eq (length is) k) (f (i ∷ is)) (at_length k f is)

record Found (k : ℕ) (f : List Instr → Bool) (code : List Instr) : Type 0 where
  instr : Instr
  next : List Instr
  stands : StandsAsInstr instr next code
  len : length next ≡ k
  tested : f (instr ∷ next) ≡ true

found_at : (k : ℕ) (f : List Instr → Bool) (code : List Instr) → at_length k f code ≡ true → Found k f code
found_at k f [] e = absurd (not_both false e refl)
found_at k f (i ∷ is) e = by (nat_eq (length is) k) refl e (λ h. further (found_at k f is h))
  where
    further : Found k f is → Found k f (i ∷ is)
    further h = record { instr = h.instr; next = h.next; stands = below h.stands; len = h.len; tested = h.tested }

    by : (b : Bool) → nat_eq (length is) k ≡ b → cond b (f (i ∷ is)) (at_length k f is) ≡ true →
        (at_length k f is ≡ true → Found k f (i ∷ is)) → Found k f (i ∷ is)
    by true s e more = record { instr = i; next = is; stands = here; len = eqb-true (length is) k s; tested = e }
    by false s e more = more e

at_is : {i : Instr} {next : List Instr} (f : List Instr → Bool) (code : List Instr) → StandsAsInstr i next code → at_length (length next) f code ≡ f (i ∷ next)
at_is {next = next} f (i ∷ is) here = ap (λ b. cond b (f (i ∷ is)) (at_length (length is) f is)) (eq-eqb (length is) (length is) refl)
at_is {next = next} f (j ∷ is) (below s) =
    ap (λ b. cond b (f (j ∷ is)) (at_length (length next) f is)) (other_length s) ∙ at_is f is s
  where
    other_length : {i : Instr} → StandsAsInstr i next is → nat_eq (length is) (length next) ≡ false
    other_length t =
        ⊎_elim
        (λ e. absurd (not_whole t (sym (eqb-true (length is) (length next) e)))) (λ e. e) (cases_Bool (nat_eq (length is) (length next)))
at_is f [] s = elim s [ ]

-- ---- writes and what wants them

module _ (m : Mach) (n : ℕ) where
  data Begun : List Instr → Type 0 where
    at_start : Begun m.code
    at_instr : {i : Instr} {next to : List Instr} → StandsAsInstr i next m.code → Writes m i n → WalkStep m i next to → Wanted m n to → Begun next

  began : {from to : List Instr} → WriteReaches m n from to → Wanted m n to → Begun from
  began (from_entry a) v = at_start
  began (from_write s w l) v = at_instr s w l v
  began (past c w l) v = began c (on w l v)
  began (past_raise c r) v = began c (aside r v)

  record Reader (from : List Instr) : Type 0 where
    reader : Instr
    rest : List Instr
    reloaded : IsReloaded m reader rest n
    comes : WriteReaches m n from (reader ∷ rest)

  read_by : {from to : List Instr} → Wanted m n to → WriteReaches m n from to → Reader from
  read_by (here {i = i} {next = next} h) c = record { reader = i; rest = next; reloaded = h; comes = c }
  read_by (on w l v) c = read_by v (past c w l)
  read_by (aside r v) c = read_by v (past_raise c r)

-- ---- the plan of the tables

module _ (m : Mach) (t : Tables) (are : AreSpillTables m t) (formed : WellFormed m) where
  abbrev lost : List (List Bool)
  lost = t.lost.rows.items

  abbrev wanted : List (List Bool)
  wanted = t.wanted.rows.items

  abbrev reloads_here : ℕ → List Instr → Bool
  reloads_here n [] = false
  reloads_here n (i ∷ next) = is_in n (reloaded_among lost (code_index m (i ∷ next)) i.args)

  abbrev spills_here : ℕ → List Instr → Bool
  spills_here n [] = false
  spills_here n (i ∷ next) = is_in n (numbers_of_registers (registers_written m i)) && some_has wanted n (next_places m (i ∷ next))

  abbrev plan : SpillPlan
  plan =
      record {
        slot = λ n. t.free + n;
        reloads = λ k n. at_length k (reloads_here n) m.code;
        spills = λ k n. at_length k (spills_here n) m.code;
      }

  reloads_found : (k n : ℕ) → Found k (reloads_here n) m.code → ReloadsAt m k n
  reloads_found k n x =
      record {
        instr = x.instr;
        next = x.next;
        len = x.len;
        reloaded = reloaded_here m lost are.lost (ending_of x.stands)
            (in_contains n (reloaded_among lost (code_index m (x.instr ∷ x.next)) (x.instr).args) x.tested);
      }

  found_reloads : (k n : ℕ) → ReloadsAt m k n → plan.reloads k n ≡ true
  found_reloads k n a =
      let i = a.instr in
      let next = a.next in
      subst (λ k. at_length k (reloads_here n) m.code ≡ true) a.len
      (at_is (reloads_here n) m.code (a.reloaded).stands
      ∙ contains_in n (reloaded_among lost (code_index m (i ∷ next)) i.args) (here_reloaded m lost are.lost a.reloaded))

  spills_found : (k n : ℕ) → Found k (spills_here n) m.code → StoresAt m k n
  spills_found k n x =
      let i = x.instr in
      let next = x.next in
      let ending = ending_of x.stands in
      let t = and_parts (is_in n (numbers_of_registers (registers_written m i))) (some_has wanted n (next_places m (i ∷ next))) x.tested in
      let w : Writes m i n = among_numbers n (registers_written m i) (in_contains n (numbers_of_registers (registers_written m i)) t.0) in
      let q = has_some wanted n (next_places m (i ∷ next)) t.1 in
      let at : drop (code_index m (i ∷ next)) m.code ≡ i ∷ next = place_is m ending in
      let s = steps_of m (code_index m (i ∷ next)) q.0 (i ∷ next) at q.1 in
      let same : i ∷ next ≡ s.instr ∷ s.next = sym at ∙ s.is in
      stored i next q.0 x.stands w x.len s q.2 same
    where
      -- the step is one from the instruction
      stored : (i : Instr) (next : List Instr) (q : ℕ) → StandsAsInstr i next m.code → Writes m i n → length next ≡ k →
          (s : Steps m (code_index m (i ∷ next)) q) → has (set_in_row wanted q) n ≡ true → i ∷ next ≡ s.instr ∷ s.next → StoresAt m k n
      stored i next q stands w len s h same =
          let leads : WalkStep m (s.instr) (s.next) (code_at m.code s.next s.target) = goes s.target s.one in
          let v : Wanted m n (code_at m.code s.next s.target) =
          subst (Wanted m n) s.to ((are.wanted.exact q n s.lands).0 h) in
          let first = whole_same same in
          let c : WriteReaches m n next (code_at m.code s.next s.target) =
          from_write stands w (led (sym first.0) (sym first.1) leads) in
          let x = read_by m n v c in
          record {
            next = next;
            len = len;
            stored = record {
              instr = i;
              stands = stands;
              writes = w;
              reader = x.reader;
              rest = x.rest;
              reloaded = x.reloaded;
              comes = x.comes;
            };
          }
        where
          whole_same : {i j : Instr} {xs ys : List Instr} → i ∷ xs ≡ j ∷ ys → (i ≡ j) × (xs ≡ ys)
          whole_same e = (cc, cc)

          led : {i j : Instr} {xs ys to : List Instr} → j ≡ i → ys ≡ xs → WalkStep m j ys to → WalkStep m i xs to
          led {i} {j} {xs} {ys} {to} e h l = subst (λ i. WalkStep m i xs to) e (subst (λ xs. WalkStep m j xs to) h l)

  begun_spills : (k n : ℕ) {next : List Instr} → length next ≡ k → {i : Instr} → StandsAsInstr i next m.code → Begun m n next → plan.spills k n ≡ true
  begun_spills k n len s at_start = absurd (not_whole s refl)
  begun_spills k n {next} len s (at_instr {i = j} {to = to} stands w l v) =
      let q = code_index m to in
      let ending = ending_leads l (ending_of stands) in
      subst (λ k. at_length k (spills_here n) m.code ≡ true) len
      (at_is (spills_here n) m.code stands
      ∙ and_from (is_in n (numbers_of_registers (registers_written m j))) (some_has wanted n (next_places m (j ∷ next)))
      (contains_in n (numbers_of_registers (registers_written m j)) (in_numbers w))
      (some_of wanted n (next_places m (j ∷ next)) q (steps_to m l)
      ((are.wanted.exact q n (place_within m to)).1 (subst (Wanted m n) (sym (place_is m ending)) v))))

  found_spills : (k n : ℕ) → StoresAt m k n → plan.spills k n ≡ true
  found_spills k n a =
      let x = a.stored in
      begun_spills k n a.len x.stands (began m n x.comes (here x.reloaded))

  is_chosen : IsSpillChoice m plan
  is_chosen =
      record {
        reloads = λ k n. (λ e. reloads_found k n (found_at k (reloads_here n) m.code e), found_reloads k n);
        spills = λ k n. (λ e. spills_found k n (found_at k (spills_here n) m.code e), found_spills k n);
        free = t.free;
        above = are.above;
        least = are.least;
        slots = λ n. refl;
      }

  -- ---- the code

  same_test : (a b : Bool) → (a ≡ true → b ≡ true) → (b ≡ true → a ≡ true) → a ≡ b
  same_test true b f g = sym (f refl)
  same_test false true f g = g refl
  same_test false false f g = refl

  module _ (i : Instr) (next : List Instr) (s : StandsAsInstr i next m.code) where
    abbrev p : ℕ
    p = code_index m (i ∷ next)

    form : IsFormedInstruction i
    form = All-contains IsFormedInstruction m.code i formed.instrs (contains_of s)

    reload_same : (r : Reg) → Contains i.args r → is_reloaded t p r ≡ plan.reloads (length next) r.number
    reload_same r c =
        same_test (is_reloaded t p r) (is_in r.number (reloaded_among lost p i.args))
        (λ e. contains_in r.number (reloaded_among lost p i.args) (reloaded_in lost p r.number i.args r c refl e))
        (λ e.
        let x = in_reloaded lost p r.number i.args (in_contains r.number (reloaded_among lost p i.args) e) in
        let same = formed.numbers x.register r (is_in_code (args_in s x.operand)) (is_in_code (args_in s c)) x.number in
        sym (ap (is_reloaded t p) same) ∙ x.tested)
        ∙ sym (at_is (reloads_here r.number) m.code s)

    after_is : code_index m next ≡ suc p
    after_is = let le = ending_short (ending_of s) in minus (length m.code) (length next) le
      where
        minus : (a b : ℕ) → suc b ≤ a → a - b ≡ suc (a - suc b)
        minus a b le = omega (arith, le)

    spill_same : (r : Reg) → Contains i.results r → has (set_in_row wanted (suc p)) r.number ≡ plan.spills (length next) r.number
    spill_same r c =
        let n = r.number in
        let on : next_places m (i ∷ next) ≡ code_index m next ∷ [] =
        ap (λ ts. map (λ t. code_index m (code_at m.code next t)) ts) (goes_on r form c) in
        let one : is_in n (numbers_of_registers (registers_written m i)) ≡ true =
        contains_in n (numbers_of_registers (registers_written m i)) (in_numbers (left_among i.results (killed m i) (among_of r i.results c))) in
        ap (λ q. has (set_in_row wanted q) n) (sym after_is) ∙ sym (last (has (set_in_row wanted (code_index m next)) n))
        ∙ ap (λ qs. some_has wanted n qs) (sym on)
        ∙ ap (λ b. b && some_has wanted n (next_places m (i ∷ next))) (sym one) ∙ sym (at_is (spills_here n) m.code s)
      where
        last : (b : Bool) → (b || false) ≡ b
        last true = refl
        last false = refl

    reloads_same : (rs : List Reg) → ((r : Reg) → Contains rs r → Contains i.args r) → reloads_at t p rs ≡ reloads_of plan (length next) rs
    reloads_same [] known = refl
    reloads_same (r ∷ rs) known =
        ap (λ b. cond b (reload plan r ∷ reloads_at t p rs) (reloads_at t p rs)) (reload_same r (known r (first_in r rs)))
        ∙ ap (λ xs. cond (plan.reloads (length next) r.number) (reload plan r ∷ xs) xs)
        (reloads_same rs (λ k c. known k (later_in r k rs c)))

    spills_same : (rs : List Reg) → ((r : Reg) → Contains rs r → Contains i.results r) → spills_at t (suc p) rs ≡ spills_of plan (length next) rs
    spills_same [] known = refl
    spills_same (r ∷ rs) known =
        ap (λ b. cond b (spill plan r ∷ spills_at t (suc p) rs) (spills_at t (suc p) rs)) (spill_same r (known r (first_in r rs)))
        ∙ ap (λ xs. cond (plan.spills (length next) r.number) (spill plan r ∷ xs) xs)
        (spills_same rs (λ k c. known k (later_in r k rs c)))

    instr_same : instr_with_copies t (length m.code - 1 - length next) i ≡ spilled_instr plan (length next) i
    instr_same =
        ap (λ p. instr_with_copies t p i) (minus (length m.code) (length next))
        ∙ ap (λ xs. xs ++ i ∷ spills_at t (suc p) i.results) (reloads_same i.args (λ r c. c))
        ∙ ap (λ ys. reloads_of plan (length next) i.args ++ i ∷ ys) (spills_same i.results (λ r c. c))
        ∙ ap (λ rs. reloads_of plan (length next) rs ++ i ∷ spills_of plan (length next) i.results) (sym (all_operands form))
        ∙ ap (λ rs. reloads_of plan (length next) (operand_registers i) ++ i ∷ spills_of plan (length next) rs) (sym (all_results form))
      where
        minus : (a b : ℕ) → a - 1 - b ≡ a - suc b
        minus a b = omega arith

  code_same : (f g : ℕ → Instr → List Instr) (code : List Instr) →
      ((i : Instr) (next : List Instr) → StandsAsInstr i next code → f (length next) i ≡ g (length next) i) → expand f code ≡ expand g code
  code_same f g [] h = refl
  code_same f g (i ∷ is) h =
      ap (λ xs. xs ++ expand f is) (h i is here) ∙ ap (λ xs. g (length is) i ++ xs) (code_same f g is (λ j next s. h j next (below s)))

  pub spilled_by : (code : List Instr) → code ≡ made.spilled_code t (length m.code) m.code → IsSpilled m (record m { code = code })
  spilled_by code e =
      record {
        plan = plan;
        chosen = is_chosen;
        is = ap (λ xs. record m { code = xs })
            (e ∙ code_same (λ k i. instr_with_copies t (length m.code - 1 - k) i) (spilled_instr plan) m.code instr_same);
      }
