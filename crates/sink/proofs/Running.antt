-- Straight runs of a function by its places.
use Rattle.std.proofs.Common.{◌≡◌, ℕ, zero, suc, ◌+◌, ◌-◌, ◌<◌, ◌≤◌, Bool, true, false, cond, not, ◌||◌, ◌⊎◌, inl, inr, ⊎_elim, List, [], ◌∷◌, ◌++◌, Some, None, length, drop, refl, sym, ap, ◌∙◌, subst, arith, append-nil}
use Rattle.std.proofs.lemmas.Bool.{cases_Bool, eq-eqb, eqb-true, or_cases, not-true, not-false}
use Rattle.std.proofs.lemmas.List.{length-append}
use Rattle.std.specs.List.{All}
use Rattle.std.specs.Prelude.{Option, nat_eq, slice_get}
use Rattle.std.proofs.lemmas.List.Elements.{All-cons, All-head, All-tail, All-nil}
use Rattle.mach_ir.specs.Meaning.{killed, registers_written}
use Rattle.mach_ir.specs.Placed.{is_straight, AreStraight}
use Rattle.mach_ir.specs.Walks.{AmongRegisters, first, later, Writes, StandsAsInstr}
use Rattle.mach_ir.specs.declared.op.Op.TheVariants as op
use Rattle.mach_ir.specs.declared.reg.Reg.{Reg}
use Rattle.mach_ir.specs.declared.mach.Instr.{Instr}
use Rattle.mach_ir.specs.declared.mach.Mach.{Mach}
use Rattle.mach_ir.specs.declared.mach.MachOp.{MachOp}
use Rattle.mach_ir.specs.declared.mach.MachOp.TheVariants as mach
use Rattle.mach_laws.specs.Expand.{Ending}
use Rattle.mach_laws.specs.Graph.{code_index}
use Rattle.mach_laws.proofs.Walking.{place_is, place_back, ending_place}
use Rattle.sink_rules.specs.Chosen.{IsRunTo}
use Rattle.sink.specs.Runs.{some_straight, straight_run_begins, is_among_registers, some_result, run_start}
use Rattle.mach_laws.proofs.Places.{stands_of, ending_of, ending_short}
use Rattle.bs_words.proofs.Truths.{not_both}

-- ---- what is at a place

pub get_there : (code : List Instr) (p : ℕ) (i : Instr) (next : List Instr) → drop p code ≡ i ∷ next → slice_get code p ≡ Some i
get_there [] zero i next e = absurd (bad e)
  where
    bad : [] ≡ i ∷ next → ⊥
    bad e = cc
get_there [] (suc p) i next e = absurd (bad e)
  where
    bad : [] ≡ i ∷ next → ⊥
    bad e = cc
get_there (x ∷ xs) zero i next e = ap Some (head e)
  where
    head : x ∷ xs ≡ i ∷ next → x ≡ i
    head e = cc
get_there (x ∷ xs) (suc p) i next e = get_there xs p i next e

there_is : (code : List Instr) (p : ℕ) → p < length code → (i : Instr) × (drop p code ≡ i ∷ drop (suc p) code)
there_is [] p lt = absurd (omega (arith, lt))
there_is (x ∷ xs) zero lt = (x, refl)
there_is (x ∷ xs) (suc p) lt = there_is xs p (omega (arith, lt))

drop_one : (code : List Instr) (p : ℕ) (i : Instr) (next : List Instr) → drop p code ≡ i ∷ next → drop (suc p) code ≡ next
drop_one [] zero i next e = absurd (bad e)
  where
    bad : [] ≡ i ∷ next → ⊥
    bad e = cc
drop_one [] (suc p) i next e = absurd (bad e)
  where
    bad : [] ≡ i ∷ next → ⊥
    bad e = cc
drop_one (x ∷ xs) zero i next e = tail e
  where
    tail : x ∷ xs ≡ i ∷ next → xs ≡ next
    tail e = cc
drop_one (x ∷ xs) (suc p) i next e = drop_one xs p i next e

get_within : (xs ys : List Instr) (p : ℕ) → p < length xs → slice_get (xs ++ ys) p ≡ slice_get xs p
get_within [] ys p lt = absurd (omega (arith, lt))
get_within (x ∷ xs) ys zero lt = refl
get_within (x ∷ xs) ys (suc p) lt = get_within xs ys p (omega (arith, lt))

-- what is before a place shows whether a run begins there
pub begins_within : (xs ys : List Instr) (p : ℕ) → p ≤ length xs → straight_run_begins (xs ++ ys) p ≡ straight_run_begins xs p
begins_within xs ys zero le = refl
begins_within xs ys (suc p) le = ap (λ o. not (some_straight o)) (get_within xs ys p (omega (arith, le)))

pub begins_inside : (code : List Instr) (p : ℕ) → straight_run_begins code p ≡ false → 0 < p
begins_inside code zero e = absurd (not_both true refl e)
begins_inside code (suc p) e = omega arith

-- ---- all of a list

-- ---- what a straight instruction writes

among_is : (n : ℕ) (rs : List Reg) → is_among_registers n rs ≡ true → AmongRegisters n rs
among_is n [] e = absurd (not_both false e refl)
among_is n (r ∷ rs) e =
    ⊎_elim (λ h. first (eqb-true r.number n h)) (λ h. later (among_is n rs h)) (or_cases (nat_eq r.number n) (is_among_registers n rs) e)

is_among_of : {n : ℕ} {rs : List Reg} → AmongRegisters n rs → is_among_registers n rs ≡ true
is_among_of {n} (first {r = r} {rs = rs} e) = ap (λ b. b || is_among_registers n rs) (eq-eqb r.number n e)
is_among_of {n} (later {r = r} {rs = rs} a) = by (nat_eq r.number n) (is_among_of a)
  where
    by : (a : Bool) → is_among_registers n rs ≡ true → a || is_among_registers n rs ≡ true
    by true e = refl
    by false e = e

straight_writes : (m : Mach) (i : Instr) (f : MachOp) → i.op ≡ f → is_straight f ≡ true → killed m i ≡ []
straight_writes m i (mach.Op (op.Pure f)) e s = ap (λ f. killed m (record i { op = f })) e
straight_writes m i (mach.Op (op.Access f)) e s = ap (λ f. killed m (record i { op = f })) e
straight_writes m i (mach.Op (op.Calling f)) e s = absurd (not_both false s refl)
straight_writes m i (mach.Op (op.Leaving f)) e s = absurd (not_both false s refl)
straight_writes m i (mach.Mark f) e s = absurd (not_both false s refl)

written_is : (m : Mach) (i : Instr) → is_straight i.op ≡ true → registers_written m i ≡ i.results
written_is m i s = ap (λ ks. i.results ++ ks) (straight_writes m i i.op refl s) ∙ append-nil i.results

-- ---- runs

none_some : (q : ℕ) → None ≡ Some q → ⊥
none_some q e = cc

pub some_same : (p q : ℕ) → Some p ≡ Some q → p ≡ q
some_same p q e = cc

module _ (m : Mach) (n : ℕ) where
  abbrev Unwritten : List Instr → Type 0
  Unwritten run = All (λ (j : Instr). Writes m j n → ⊥) run

  abbrev code : List Instr
  code = m.code

  -- the run to this code
  pub record Ran (rest : List Instr) (q : ℕ) : Type 0 where
    pub run : List Instr
    pub is : drop q code ≡ run ++ rest
    pub straight : AreStraight run
    pub unwritten : Unwritten run
    pub begins : straight_run_begins code q ≡ true
    pub within : q ≤ length code

  ran : (rest : List Instr) (q p : ℕ) (run : List Instr) → drop p code ≡ run ++ rest → AreStraight run → Unwritten run → p ≤ length code →
      run_start code n p ≡ Some q → Ran rest q
  ran rest q zero run e s u le h =
      subst (Ran rest) (some_same 0 q h) (record { run = run; is = e; straight = s; unwritten = u; begins = refl; within = le })
  ran rest q (suc p) run e s u le h = by (λ run. ran rest q p run) (cases_Bool (straight_run_begins code (suc p)))
    where
      Goes : Type 0
      Goes =
          (run : List Instr) → drop p code ≡ run ++ rest → AreStraight run → Unwritten run → p ≤ length code →
          run_start code n p ≡ Some q → Ran rest q

      there : (i : Instr) × (drop p code ≡ i ∷ drop (suc p) code)
      there = there_is code p (omega (arith, le))

      i : Instr
      i = there.0

      get : slice_get code p ≡ Some i
      get = get_there code p i (drop (suc p) code) there.1

      next : Bool → Bool → Option ℕ
      next b w = cond b (Some (suc p)) (cond w None (run_start code n p))

      opened : (b : Bool) → straight_run_begins code (suc p) ≡ b → next b (is_among_registers n i.results) ≡ Some q
      opened b g = ap (λ o. next b (some_result n o)) (sym get) ∙ ap (λ b. next b (some_result n (slice_get code p))) (sym g) ∙ h

      by : Goes → (straight_run_begins code (suc p) ≡ true) ⊎ (straight_run_begins code (suc p) ≡ false) → Ran rest q
      by go (inl g) =
          subst (Ran rest) (some_same (suc p) q (opened true g))
          (record { run = run; is = e; straight = s; unwritten = u; begins = g; within = le })
      by go (inr g) = further (cases_Bool (is_among_registers n i.results))
        where
          straight : is_straight i.op ≡ true
          straight = not-false (is_straight i.op) (ap (λ o. not (some_straight o)) (sym get) ∙ g)

          further : (is_among_registers n i.results ≡ true) ⊎ (is_among_registers n i.results ≡ false) → Ran rest q
          further (inl w) = absurd (none_some q (ap (next false) (sym w) ∙ opened false g))
          further (inr w) =
              go (i ∷ run) (there.1 ∙ ap (λ xs. i ∷ xs) e)
              (All-cons (λ (i : Instr). is_straight i.op ≡ true) i run straight s)
              (All-cons (λ (j : Instr). Writes m j n → ⊥) i run
              (λ a. not_both (is_among_registers n i.results) (is_among_of (subst (AmongRegisters n) (written_is m i straight) a)) w) u)
              (omega (arith, le)) (ap (next false) (sym w) ∙ opened false g)

  -- ---- where a run begins

  pub begins_there : (q : ℕ) (from : List Instr) → drop q code ≡ from → q ≤ length code → straight_run_begins code q ≡ true →
      (j : Instr) → StandsAsInstr j from code → is_straight j.op ≡ false
  begins_there q from e le g j st =
      by q (place_back m q from le e)
      (place_back_of (ending_of st)) g
    where
      place_back_of : Ending (j ∷ from) code → (p : ℕ) × (drop p code ≡ j ∷ from) × (p ≡ length code - suc (length from)) × (suc (length from) ≤ length code)
      place_back_of e = (code_index m (j ∷ from), place_is m e, refl, ending_short e)

      minus : (a b p q : ℕ) → a - b ≡ suc q → p ≡ a - suc b → p ≡ q
      minus a b p q e h = omega (arith, e, h)

      none : (a b : ℕ) → a - b ≡ 0 → suc b ≤ a → ⊥
      none a b e h = omega (arith, e, h)

      by : (q : ℕ) → code_index m from ≡ q →
          (p : ℕ) × (drop p code ≡ j ∷ from) × (p ≡ length code - suc (length from)) × (suc (length from) ≤ length code) →
          straight_run_begins code q ≡ true → is_straight j.op ≡ false
      by zero h x g = absurd (none (length code) (length from) h x.3)
      by (suc q) h x g =
          let same : x.0 ≡ q = minus (length code) (length from) x.0 q h x.2 in
          let get : slice_get code q ≡ Some j = get_there code q j from (subst (λ p. drop p code ≡ j ∷ from) same x.1) in
          not-true (is_straight j.op) (ap (λ o. not (some_straight o)) (sym get) ∙ g)

  begins_back : (q : ℕ) (from : List Instr) → drop q code ≡ from → q ≤ length code →
      ((j : Instr) → StandsAsInstr j from code → is_straight j.op ≡ false) → straight_run_begins code q ≡ true
  begins_back zero from e le h = refl
  begins_back (suc q) from e le h =
      let there = there_is code q (omega (arith, le)) in
      let i = there.0 in
      let is : drop q code ≡ i ∷ from = there.1 ∙ ap (λ xs. i ∷ xs) e in
      ap (λ o. not (some_straight o)) (get_there code q i from is) ∙ ap not (h i (stands_of (ending_place m q is)))

  -- a run is passed
  passed : (run rest : List Instr) (q : ℕ) → drop q code ≡ run ++ rest → AreStraight run → Unwritten run →
      run_start code n (q + length run) ≡ run_start code n q
  passed [] rest q e s u = ap (run_start code n) (plus q)
    where
      plus : (q : ℕ) → q + 0 ≡ q
      plus q = omega arith
  passed (i ∷ run) rest q e s u =
      ap (run_start code n) (plus q (length run))
      ∙ passed run rest (suc q) (drop_one code q i (run ++ rest) e) (All-tail (λ (i : Instr). is_straight i.op ≡ true) i run s)
      (All-tail (λ (j : Instr). Writes m j n → ⊥) i run u)
      ∙ one
    where
      plus : (q k : ℕ) → q + suc k ≡ suc q + k
      plus q k = omega arith

      get : slice_get code q ≡ Some i
      get = get_there code q i (run ++ rest) e

      straight : is_straight i.op ≡ true
      straight = All-head (λ (i : Instr). is_straight i.op ≡ true) i run s

      unwritten : is_among_registers n i.results ≡ false
      unwritten =
          ⊎_elim
          (λ w.
          absurd
          (All-head (λ (j : Instr). Writes m j n → ⊥) i run u (subst (AmongRegisters n) (sym (written_is m i straight)) (among_is n i.results w))))
          (λ w. w) (cases_Bool (is_among_registers n i.results))

      one : run_start code n (suc q) ≡ run_start code n q
      one =
          ap (λ o. cond (not (some_straight o)) (Some (suc q)) (cond (some_result n o) None (run_start code n q))) get
          ∙ ap (λ b. cond (not b) (Some (suc q)) (cond (is_among_registers n i.results) None (run_start code n q))) straight
          ∙ ap (λ b. cond b None (run_start code n q)) unwritten

  at_begin : (q : ℕ) → straight_run_begins code q ≡ true → run_start code n q ≡ Some q
  at_begin zero e = refl
  at_begin (suc q) e = ap (λ b. cond b (Some (suc q)) (cond (some_result n (slice_get code q)) None (run_start code n q))) e

  -- ---- a run to a call

  pub begins_of : {from : List Instr} {call : Instr} {after : List Instr} → Ending from code → IsRunTo m n from call after →
      straight_run_begins code (code_index m from) ≡ true
  begins_of {from} e r = begins_back (code_index m from) from (place_is m e) (within from) r.begins
    where
      within : (rest : List Instr) → code_index m rest ≤ length code
      within rest = by (length code) (length rest)
        where
          by : (a b : ℕ) → a - b ≤ a
          by a b = omega arith

  pub run_starts : {from : List Instr} {call : Instr} {after : List Instr} → Ending from code → IsRunTo m n from call after →
      run_start code n (code_index m (call ∷ after)) ≡ Some (code_index m from)
  run_starts {from} {call} {after} e r =
      ap (run_start code n) (place (length code) (length from) (length r.run) (suc (length after)) count (ending_short e))
      ∙ passed r.run (call ∷ after) (code_index m from) (place_is m e ∙ r.is) r.straight r.unwritten ∙ at_begin (code_index m from) (begins_of e r)
    where
      count : length from ≡ length r.run + suc (length after)
      count = ap length r.is ∙ length-append r.run (call ∷ after)

      place : (a b k c : ℕ) → b ≡ k + c → b ≤ a → a - c ≡ a - b + k
      place a b k c e h = omega (arith, e, h)

  -- runs to one call begin at one place
  pub one_start : {from others : List Instr} {call other : Instr} {after onward : List Instr} → Ending from code → Ending others code →
      IsRunTo m n from call after → IsRunTo m n others other onward → after ≡ onward → code_index m from ≡ code_index m others
  one_start {from} {others} e h r x same =
      some_same (code_index m from) (code_index m others)
      (sym (run_starts e r) ∙ ap (λ (rest : List Instr). run_start code n (length code - suc (length rest))) same ∙ run_starts h x)

  pub run_to : (q p : ℕ) (call : Instr) (after : List Instr) → drop p code ≡ call ∷ after → p ≤ length code → run_start code n p ≡ Some q →
      Ran (call ∷ after) q
  run_to q p call after e le h =
      ran (call ∷ after) q p [] e (All-nil (λ (i : Instr). is_straight i.op ≡ true)) (All-nil (λ (j : Instr). Writes m j n → ⊥)) le h

  -- it begins with some instruction
  pub begin_of : (q : ℕ) (call : Instr) (after : List Instr) → Ran (call ∷ after) q →
      (i : Instr) × (next : List Instr) × (drop q code ≡ i ∷ next)
  begin_of q call after r = by r.run r.is
    where
      by : (run : List Instr) → drop q code ≡ run ++ call ∷ after → (i : Instr) × (next : List Instr) × (drop q code ≡ i ∷ next)
      by [] e = (call, after, e)
      by (i ∷ run) e = (i, run ++ call ∷ after, e)
