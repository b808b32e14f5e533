-- The lists of numbers have exactly what a line reads as val, and what it writes.
use Rattle.std.proofs.Common.{◌≡◌, ℕ, zero, suc, ◌+◌, ◌-◌, ◌<◌, ◌≤◌, Bool, true, false, cond, ◌&&◌, nat_le, inl, inr, ⊎_elim, List, [], ◌∷◌, ◌++◌, refl, sym, ap, ◌∙◌, subst, arith}
use Rattle.std.proofs.lemmas.Bool.{lt-ltb, le-ltb, le-leb, leb-true, or_cases, or_left, or_right, and_parts, and_from, cases_lt}
use Rattle.std.proofs.lemmas.List.Elements.{All-nil, All-cons, All-head, All-tail, All-append, Contains-append_left, Contains-append_right, Contains-append_cases}
use Rattle.std.specs.List.{All, Contains}
use Rattle.bs_words.specs.declared.types.Comp.{Comp}
use Rattle.bs_words.specs.declared.types.Comp.TheVariants as comp
use Rattle.bs_words.specs.declared.types.Loc.{Loc}
use Rattle.bs_words.specs.declared.types.Loc.TheVariants as loc
use Rattle.bs_words.proofs.Lists.{none_in, first_in, later_in, in_cons}
use Rattle.lin_ir.specs.Known.{Destroyed, Nothing, Temporaries, Everything, is_destroyed, is_temporary}
use Rattle.lin_ir.specs.Meaning.{destroyed_by}
use Rattle.lin_ir.specs.declared.lin.Spot.{Spot}
use Rattle.lin_ir.specs.declared.lin.Line.{Line}
use Rattle.lin_laws.specs.Graph.{location_of_number, HasNumber, HaveNumbers, AreReads, AreWritesAt}
use Rattle.lin_laws.specs.Numbers.{number_of_location, is_val_comp, val_numbers, numbers_of_spots, consecutive_from, destroyed_numbers, written_numbers}

-- ---- numbers of locations

loc_low : (r : ℕ) → r < 32 → location_of_number r ≡ loc.Machine r
loc_low r h = ap (λ b. cond b (loc.Machine r) (loc.Slot (r - 32))) (lt-ltb r 32 h)

loc_high : (n : ℕ) → 32 ≤ n → location_of_number n ≡ loc.Slot (n - 32)
loc_high n h = ap (λ b. cond b (loc.Machine n) (loc.Slot (n - 32))) (le-ltb n 32 h)

pub loc_of_number : (slots : ℕ) (l : Loc) → HasNumber slots l → location_of_number (number_of_location l) ≡ l
loc_of_number slots loc.Unset h = absurd h
loc_of_number slots (loc.Machine r) h = loc_low r h
loc_of_number slots (loc.Slot k) h = let e : k + 32 - 32 ≡ k = omega arith in loc_high (k + 32) (omega arith) ∙ ap loc.Slot e

pub number_of_loc : (n : ℕ) → number_of_location (location_of_number n) ≡ n
number_of_loc n =
    ⊎_elim (λ h. ap number_of_location (loc_low n h))
    (λ h. let e : n - 32 + 32 ≡ n = omega (arith, h) in ap number_of_location (loc_high n h) ∙ e) (cases_lt n 32)

pub number_below : (slots : ℕ) (l : Loc) → HasNumber slots l → number_of_location l < slots + 32
number_below slots loc.Unset h = absurd h
number_below slots (loc.Machine r) h = omega (arith, h)
number_below slots (loc.Slot k) h = omega (arith, h)

-- ---- what is read

module _ (slots : ℕ) where
  abbrev IsNumbered : Spot → Type 0
  IsNumbered s = HasNumber slots s.loc

  abbrev spot_at : ℕ → Comp → Spot
  spot_at n t = record { loc = location_of_number n; comp = t }

  vals_within : (ss : List Spot) → HaveNumbers slots ss → All (λ n. n < slots + 32) (val_numbers ss)
  vals_within [] h = All-nil (λ n. n < slots + 32)
  vals_within (s ∷ ss) h = by (is_val_comp s.comp) (vals_within ss (All-tail IsNumbered s ss h))
    where
      by : (b : Bool) → All (λ n. n < slots + 32) (val_numbers ss) →
          All (λ n. n < slots + 32) (cond b (number_of_location s.loc ∷ val_numbers ss) (val_numbers ss))
      by true a =
          All-cons (λ n. n < slots + 32) (number_of_location s.loc) (val_numbers ss)
          (number_below slots s.loc (All-head IsNumbered s ss h)) a
      by false a = a

  val_is : (t : Comp) → is_val_comp t ≡ true → t ≡ comp.Val
  val_is comp.Int e = absurd (cc)
  val_is comp.Val e = refl
  val_is comp.Addr e = absurd (cc)
  val_is comp.Float e = absurd (cc)

  abbrev spot_of : Loc → Comp → Spot
  spot_of x y = record { loc = x; comp = y }

  same_spot : (s : Spot) (l : Loc) (t : Comp) → s.loc ≡ l → s.comp ≡ t → s ≡ (record { loc = l; comp = t })
  same_spot s l t e f = ap (λ (x : Loc). spot_of x s.comp) e ∙ ap (λ (x : Comp). spot_of l x) f

  vals_read : (n : ℕ) (ss : List Spot) → HaveNumbers slots ss → Contains (val_numbers ss) n → Contains ss (spot_at n comp.Val)
  vals_read n [] h c = absurd (none_in n c)
  vals_read n (s ∷ ss) h c = by (is_val_comp s.comp) refl (vals_read n ss (All-tail IsNumbered s ss h)) c
    where
      by : (b : Bool) → is_val_comp s.comp ≡ b → (Contains (val_numbers ss) n → Contains ss (spot_at n comp.Val)) →
          Contains (cond b (number_of_location s.loc ∷ val_numbers ss) (val_numbers ss)) n → Contains (s ∷ ss) (spot_at n comp.Val)
      by true e rest d =
          ⊎_elim
          (λ f.
          let l : s.loc ≡ location_of_number n =
          sym (loc_of_number slots s.loc (All-head IsNumbered s ss h)) ∙ ap location_of_number f in
          subst (λ x. Contains (x ∷ ss) (spot_at n comp.Val)) (sym (same_spot s (location_of_number n) comp.Val l (val_is s.comp e)))
          (first_in (spot_at n comp.Val) ss))
          (λ g. later_in s (spot_at n comp.Val) ss (rest g)) (in_cons (number_of_location s.loc) n (val_numbers ss) d)
      by false e rest d = later_in s (spot_at n comp.Val) ss (rest d)

  vals_all : (n : ℕ) (ss : List Spot) → Contains ss (spot_at n comp.Val) → Contains (val_numbers ss) n
  vals_all n [] c = absurd (none_in (spot_at n comp.Val) c)
  vals_all n (s ∷ ss) c =
      ⊎_elim
      (λ e.
      subst (λ (x : Spot). Contains (cond (is_val_comp x.comp) (number_of_location x.loc ∷ val_numbers ss) (val_numbers ss)) n) (sym e)
      (subst (λ k. Contains (k ∷ val_numbers ss) n) (sym (number_of_loc n)) (first_in n (val_numbers ss))))
      (λ d. later (is_val_comp s.comp) (vals_all n ss d)) (in_cons s (spot_at n comp.Val) ss c)
    where
      later : (b : Bool) → Contains (val_numbers ss) n → Contains (cond b (number_of_location s.loc ∷ val_numbers ss) (val_numbers ss)) n
      later true d = later_in (number_of_location s.loc) n (val_numbers ss) d
      later false d = d

  pub are_reads : (i : Line) (next : List Line) → HaveNumbers slots i.args → AreReads (slots + 32) (i ∷ next) (val_numbers i.args)
  are_reads i next h =
      record { within = vals_within i.args h; exact = λ n. (vals_read n i.args h, vals_all n i.args) }

  -- ---- what is written

  numbers_within : (ss : List Spot) → HaveNumbers slots ss → All (λ n. n < slots + 32) (numbers_of_spots ss)
  numbers_within [] h = All-nil (λ n. n < slots + 32)
  numbers_within (s ∷ ss) h =
      All-cons (λ n. n < slots + 32) (number_of_location s.loc) (numbers_of_spots ss) (number_below slots s.loc (All-head IsNumbered s ss h))
      (numbers_within ss (All-tail IsNumbered s ss h))

  numbers_named : (n : ℕ) (ss : List Spot) → HaveNumbers slots ss → Contains (numbers_of_spots ss) n → (t : Comp) × Contains ss (spot_at n t)
  numbers_named n [] h c = absurd (none_in n c)
  numbers_named n (s ∷ ss) h c =
      ⊎_elim
      (λ f.
      let l : s.loc ≡ location_of_number n = sym (loc_of_number slots s.loc (All-head IsNumbered s ss h)) ∙ ap location_of_number f in (
        s.comp,
        subst (λ x. Contains (x ∷ ss) (spot_at n s.comp)) (sym (same_spot s (location_of_number n) s.comp l refl)) (first_in (spot_at n s.comp) ss),
      ))
      (λ d. let r = numbers_named n ss (All-tail IsNumbered s ss h) d in (r.0, later_in s (spot_at n r.0) ss r.1))
      (in_cons (number_of_location s.loc) n (numbers_of_spots ss) c)

  numbers_all : (n : ℕ) (t : Comp) (ss : List Spot) → Contains ss (spot_at n t) → Contains (numbers_of_spots ss) n
  numbers_all n t [] c = absurd (none_in (spot_at n t) c)
  numbers_all n t (s ∷ ss) c =
      ⊎_elim
      (λ e.
      subst (λ (x : Spot). Contains (number_of_location x.loc ∷ numbers_of_spots ss) n) (sym e)
      (subst (λ k. Contains (k ∷ numbers_of_spots ss) n) (sym (number_of_loc n)) (first_in n (numbers_of_spots ss))))
      (λ d. later_in (number_of_location s.loc) n (numbers_of_spots ss) (numbers_all n t ss d)) (in_cons s (spot_at n t) ss c)

-- ---- what is destroyed

pub in_run : (a c n : ℕ) → a ≤ n → n < a + c → Contains (consecutive_from a c) n
unfolding consecutive_from
in_run a zero n le lt = absurd (omega (arith, le, lt))
in_run a (suc c) n le lt =
    ⊎_elim (λ (h : n < suc a). let e : n ≡ a = omega (arith, h, le) in subst (λ k. Contains (a ∷ consecutive_from (suc a) c) k) (sym e) (first_in a (consecutive_from (suc a) c)))
    (λ (h : suc a ≤ n). later_in a n (consecutive_from (suc a) c) (in_run (suc a) c n h (omega (arith, lt)))) (cases_lt n (suc a))

pub run_bounds : (a c n : ℕ) → Contains (consecutive_from a c) n → (a ≤ n) × (n < a + c)
unfolding consecutive_from
run_bounds a zero n h = absurd (none_in n h)
run_bounds a (suc c) n h =
    ⊎_elim (λ (e : a ≡ n). ((let le : a ≤ n = omega (arith, e) in le), (let lt : n < a + suc c = omega (arith, e) in lt)))
    (λ d.
    let r = run_bounds (suc a) c n d in
    let le = r.0 in let lt = r.1 in ((let x : a ≤ n = omega (arith, le) in x), (let y : n < a + suc c = omega (arith, lt) in y)))
    (in_cons a n (consecutive_from (suc a) c) h)

pub run_within : (a c bound : ℕ) → a + c ≤ bound → All (λ n. n < bound) (consecutive_from a c)
unfolding consecutive_from
run_within a zero bound h = All-nil (λ n. n < bound)
run_within a (suc c) bound h =
    All-cons (λ n. n < bound) a (consecutive_from (suc a) c) (omega (arith, h)) (run_within (suc a) c bound (omega (arith, h)))

temporary_is : (n : ℕ) → n < 32 → Contains (consecutive_from 10 8 ++ consecutive_from 28 4) n → is_temporary n ≡ true
temporary_is n lt h =
    ⊎_elim
    (λ c.
    let r = run_bounds 10 8 n c in let lo = r.0 in let hi = r.1 in
    or_left (nat_le 10 n && nat_le n 17) (nat_le 28 n) (and_from (nat_le 10 n) (nat_le n 17) (le-leb 10 n (omega (arith, lo))) (le-leb n 17 (omega (arith, hi)))))
    (λ c.
    let r = run_bounds 28 4 n c in let lo = r.0 in
    or_right (nat_le 10 n && nat_le n 17) (nat_le 28 n) (le-leb 28 n (omega (arith, lo))))
    (Contains-append_cases (consecutive_from 10 8) (consecutive_from 28 4) n h)

temporary_all : (n : ℕ) → n < 32 → is_temporary n ≡ true → Contains (consecutive_from 10 8 ++ consecutive_from 28 4) n
temporary_all n lt h =
    ⊎_elim
    (λ a.
    let p = and_parts (nat_le 10 n) (nat_le n 17) a in
    let lo = leb-true 10 n p.0 in let hi = leb-true n 17 p.1 in
    Contains-append_left (consecutive_from 10 8) (consecutive_from 28 4) n (in_run 10 8 n (omega (arith, lo)) (omega (arith, hi))))
    (λ a.
    let lo = leb-true 28 n a in
    Contains-append_right (consecutive_from 10 8) (consecutive_from 28 4) n (in_run 28 4 n (omega (arith, lo)) (omega (arith, lt))))
    (or_cases (nat_le 10 n && nat_le n 17) (nat_le 28 n) h)

-- a register is destroyed just where its number is in the list, and a slot never
destroyed_low : (d : Destroyed) (n : ℕ) → n < 32 → Contains (destroyed_numbers d) n → is_destroyed d (loc.Machine n) ≡ true
destroyed_low Nothing n lt h = absurd (none_in n h)
destroyed_low Temporaries n lt h = temporary_is n lt h
destroyed_low Everything n lt h = refl

destroyed_below : (d : Destroyed) (n : ℕ) → Contains (destroyed_numbers d) n → n < 32
destroyed_below Nothing n h = absurd (none_in n h)
destroyed_below Temporaries n h =
    ⊎_elim (λ c. let r = run_bounds 10 8 n c in let hi = r.1 in omega (arith, hi))
    (λ c. let r = run_bounds 28 4 n c in let hi = r.1 in omega (arith, hi)) (Contains-append_cases (consecutive_from 10 8) (consecutive_from 28 4) n h)
destroyed_below Everything n h = let r = run_bounds 0 32 n h in let hi = r.1 in omega (arith, hi)

destroyed_is : (d : Destroyed) (n : ℕ) → Contains (destroyed_numbers d) n → is_destroyed d (location_of_number n) ≡ true
destroyed_is d n h =
    let lt = destroyed_below d n h in
    ap (is_destroyed d) (loc_low n lt) ∙ destroyed_low d n lt h

slot_stays : (d : Destroyed) (k : ℕ) → is_destroyed d (loc.Slot k) ≡ true → ⊥
slot_stays Nothing k e = absurd (cc)
slot_stays Temporaries k e = absurd (cc)
slot_stays Everything k e = absurd (cc)

register_all : (d : Destroyed) (n : ℕ) → n < 32 → is_destroyed d (loc.Machine n) ≡ true → Contains (destroyed_numbers d) n
register_all Nothing n lt e = absurd (cc)
register_all Temporaries n lt e = temporary_all n lt e
register_all Everything n lt e = in_run 0 32 n (omega arith) (omega (arith, lt))

destroyed_all : (d : Destroyed) (n : ℕ) → is_destroyed d (location_of_number n) ≡ true → Contains (destroyed_numbers d) n
destroyed_all d n e =
    ⊎_elim (λ h. register_all d n h (sym (ap (is_destroyed d) (loc_low n h)) ∙ e))
    (λ h. absurd (slot_stays d (n - 32) (sym (ap (is_destroyed d) (loc_high n h)) ∙ e))) (cases_lt n 32)

destroyed_within : (slots : ℕ) (d : Destroyed) → All (λ n. n < slots + 32) (destroyed_numbers d)
destroyed_within slots Nothing = All-nil (λ n. n < slots + 32)
destroyed_within slots Temporaries =
    All-append (λ n. n < slots + 32) (consecutive_from 10 8) (consecutive_from 28 4) (run_within 10 8 (slots + 32) (omega arith)) (run_within 28 4 (slots + 32) (omega arith))
destroyed_within slots Everything = run_within 0 32 (slots + 32) (omega arith)

pub are_writes : (slots : ℕ) (i : Line) (next : List Line) → HaveNumbers slots i.results →
    AreWritesAt (slots + 32) (i ∷ next) (written_numbers i)
are_writes slots i next h =
    record {
      within =
          All-append (λ n. n < slots + 32) (numbers_of_spots i.results) (destroyed_numbers (destroyed_by i.op))
          (numbers_within slots i.results h) (destroyed_within slots (destroyed_by i.op));
      exact = λ n. (
        λ c.
            ⊎_elim (λ a. inl (numbers_named slots n i.results h a)) (λ a. inr (destroyed_is (destroyed_by i.op) n a))
            (Contains-append_cases (numbers_of_spots i.results) (destroyed_numbers (destroyed_by i.op)) n c),
        λ w.
            ⊎_elim
            (λ a. Contains-append_left (numbers_of_spots i.results) (destroyed_numbers (destroyed_by i.op)) n (numbers_all slots n a.0 i.results a.1))
            (λ a. Contains-append_right (numbers_of_spots i.results) (destroyed_numbers (destroyed_by i.op)) n (destroyed_all (destroyed_by i.op) n a))
            w,
      );
    }
