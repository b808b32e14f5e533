-- What is known of rows, as the proofs of the scan take it: each row with those before it.
use Rattle.std.proofs.Common.{◌≡◌, ◌≢◌, ℕ, suc, ◌≤◌, true, ◌⊎◌, inl, inr, ⊎_elim, List, [], ◌∷◌, All, AllPairs, refl, sym, subst, arith}
use Rattle.std.specs.List.{Contains}
use Rattle.bs_words.proofs.Lists.{none_in, first_in, later_in, in_cons}
use Rattle.bs_words.specs.declared.types.Loc.TheVariants as loc
use Rattle.mach_ir.specs.Placed.{Colouring, LocationsAgree}
use Rattle.mach_ir.specs.declared.reg.Reg.{Reg}
use Rattle.linscan_rules.specs.Rows.{AreByStart, IsFixedOver, IsHeldOver, by_one_fixed, by_another, IsSettled, AreScanRows}
use Rattle.linscan_rules.specs.Scan.{OpenInterval, FixedInterval, ClosedColours, scanned}
use Rattle.linscan_rules.proofs.Scan.{IsIn, is_first, is_later, Meets, Blocks, Full, by_fixed, by_row, Settled, Sorted, no_more, one_more, all_of, scanned_settled, none_settled}

-- ---- members

pub in_of : {A : Type 0} (x : A) (xs : List A) → Contains xs x → IsIn x xs
in_of x [] c = absurd (none_in x c)
in_of x (y ∷ xs) c = ⊎_elim (λ e. subst (λ y. IsIn x (y ∷ xs)) (sym e) is_first) (λ d. is_later (in_of x xs d)) (in_cons y x xs c)

pub contains_of : {A : Type 0} {x : A} {xs : List A} → IsIn x xs → Contains xs x
contains_of {x = x} (is_first {xs = xs}) = first_in x xs
contains_of {x = x} (is_later {y = y} {xs = xs} i) = later_in y x xs (contains_of i)

pub in_all : (done xs : List OpenInterval) (r : OpenInterval) → IsIn r done → IsIn r (all_of done xs)
in_all done [] r z = z
in_all done (x ∷ xs) r z = in_all (x ∷ done) xs r (is_later z)

pub rows_in_all : (done xs : List OpenInterval) (r : OpenInterval) → IsIn r xs → IsIn r (all_of done xs)
rows_in_all done [] r z = elim z [ ]
rows_in_all done (x ∷ xs) r z = by r z (λ r y. rows_in_all (x ∷ done) xs r y)
  where
    by : (r : OpenInterval) → IsIn r (x ∷ xs) → ((r : OpenInterval) → IsIn r xs → IsIn r (all_of (x ∷ done) xs)) → IsIn r (all_of (x ∷ done) xs)
    by _ is_first ih = in_all (x ∷ done) xs x is_first
    by r (is_later y) ih = ih r y

all_in_rows : (done xs : List OpenInterval) (r : OpenInterval) → IsIn r (all_of done xs) → IsIn r done ⊎ IsIn r xs
all_in_rows done [] r z = inl z
all_in_rows done (x ∷ xs) r z = ⊎_elim (λ y. first_or r y) (λ y. inr (is_later y)) (all_in_rows (x ∷ done) xs r z)
  where
    first_or : (r : OpenInterval) → IsIn r (x ∷ done) → IsIn r done ⊎ IsIn r (x ∷ xs)
    first_or _ is_first = inr is_first
    first_or r (is_later y) = inl y

pub rows_of : (xs : List OpenInterval) (r : OpenInterval) → IsIn r (all_of [] xs) → IsIn r xs
rows_of xs r z = ⊎_elim (λ y. none r y) (λ y. y) (all_in_rows [] xs r z)
  where
    none : (r : OpenInterval) → IsIn r [] → IsIn r xs
    none r y = elim y [ ]

-- ---- the order

abbrev Begins : OpenInterval → OpenInterval → Type 0
Begins x y = (x.from ≤ y.from) × (x.number ≢ y.number)

pair_first : (x : OpenInterval) (xs : List OpenInterval) → AllPairs Begins (x ∷ xs) → (y : OpenInterval) → Contains xs y → Begins x y
pair_first x xs pairs y c =
    let le = c.1 in
    subst (Begins x) c.2 (pairs 0 (suc c.0) y (omega arith) (omega (arith, le)))

pairs_later : (x : OpenInterval) (xs : List OpenInterval) → AllPairs Begins (x ∷ xs) → AllPairs Begins xs
pairs_later x xs pairs = λ i j d lt within. pairs (suc i) (suc j) d (omega (arith, lt)) (omega (arith, within))

abbrev IsRange : OpenInterval → Type 0
IsRange x = x.from ≤ x.to

ranges_later : (x : OpenInterval) (xs : List OpenInterval) → All IsRange (x ∷ xs) → All IsRange xs
ranges_later x xs ranges = λ k d lt. ranges (suc k) d (omega (arith, lt))

sorted_rows : (done xs : List OpenInterval) → ((r q : OpenInterval) → IsIn r done → IsIn q done → r.number ≡ q.number → r ≡ q) →
    ((r y : OpenInterval) → IsIn r done → IsIn y xs → Begins r y) → AllPairs Begins xs → All IsRange xs → Sorted done xs
sorted_rows done [] own before pairs ranges = no_more
sorted_rows done (x ∷ xs) own before pairs ranges =
    one_more
    (record {
      own = own;
      fresh = λ r z e. (before r x z is_first).1 e;
      earlier = λ r z. (before r x z is_first).0;
      range = ranges 0 x (omega arith);
    })
    (sorted_rows (x ∷ done) xs owns begins (pairs_later x xs pairs) (ranges_later x xs ranges))
  where
    owns : (r q : OpenInterval) → IsIn r (x ∷ done) → IsIn q (x ∷ done) → r.number ≡ q.number → r ≡ q
    owns _ _ is_first is_first e = refl
    owns _ q is_first (is_later y) e = absurd ((before q x y is_first).1 (sym e))
    owns r _ (is_later z) is_first e = absurd ((before r x z is_first).1 e)
    owns r q (is_later z) (is_later y) e = own r q z y e

    begins : (r y : OpenInterval) → IsIn r (x ∷ done) → IsIn y xs → Begins r y
    begins _ y is_first w = pair_first x xs pairs y (contains_of w)
    begins r y (is_later z) w = before r y z (is_later w)

pub sorted_of : (rows : List OpenInterval) → AreByStart rows → Sorted [] rows
sorted_of rows are = sorted_rows [] rows (λ r q z y e. elim z [ ]) (λ r y z w. elim z [ ]) are.pairs are.ranges

-- ---- after all rows

blocks_of : (fs : List FixedInterval) (x : OpenInterval) (c : ℕ) → IsFixedOver fs x c → Blocks fs x c
blocks_of fs x c b = record { fixed = b.fixed; among = in_of b.fixed fs b.among; colour = b.colour; meets = b.overlap }

held_of : (fs : List FixedInterval) (rows : List OpenInterval) (place : Colouring) (x : OpenInterval) (c : ℕ) → Full fs (all_of [] rows) place x c → IsHeldOver fs rows place x c
held_of fs rows place x c (by_fixed f z q m) = by_one_fixed (record { fixed = f; among = contains_of z; colour = q; overlap = m })
held_of fs rows place x c (by_row y z s m le) = by_another y (contains_of (rows_of rows y z)) s m le

settled_of : (colours : List ℕ) (closed : ClosedColours) (fs : List FixedInterval) (rows : List OpenInterval) (place : Colouring) → Settled colours closed fs (all_of [] rows) place →
    IsSettled colours closed fs rows place
settled_of colours closed fs rows place s =
    record {
      chosen = λ x z. ⊎_elim (λ y. inl (y.0, contains_of y.1, y.2)) (λ y. inr y) (s.chosen x (all x z));
      clear = λ x z. s.clear x (all x z);
      apart = λ x y z w. s.apart x y (all x z) (all y w);
      full = λ x z k q c y. held_of fs rows place x c (s.full x (all x z) k q c (in_of c colours y));
    }
  where
    all : (x : OpenInterval) → Contains rows x → IsIn x (all_of [] rows)
    all x z = rows_in_all [] rows x (in_of x rows z)

pub rows_settled : (colours : List ℕ) (closed : ClosedColours) (fs : List FixedInterval) (start : Colouring) (rows : List OpenInterval) → AreByStart rows →
    ((x : OpenInterval) (c : ℕ) → Contains rows x → closed x c ≡ true → IsFixedOver fs x c) → IsSettled colours closed fs rows (scanned colours closed [] start rows)
rows_settled colours closed fs start rows are blocks =
    settled_of colours closed fs rows (scanned colours closed [] start rows)
    (scanned_settled colours closed fs [] start rows (λ x z c e. blocks_of fs x c (blocks x c (contains_of z) e)) (sorted_of rows are)
    (none_settled colours closed fs start))

-- ---- what is known of them

pub record Known (IsOne : Reg → Type 0) (AreJoined : ℕ → ℕ → Type 0) (Interval : ℕ → ℕ → ℕ → Type 0) (closed : ClosedColours) (fs : List FixedInterval) (start : Colouring) (rows : List OpenInterval) : Type 0
  where
    pub sorted : Sorted [] rows
    pub open_row : (r : Reg) → IsOne r → r.loc ≡ loc.Unset → (x : OpenInterval) × IsIn x (all_of [] rows) × (x.number ≡ r.number) × (x.origin ≡ r.origin)
    pub no_row : (r : Reg) → IsOne r → r.loc ≢ loc.Unset → (x : OpenInterval) → IsIn x (all_of [] rows) → x.number ≡ r.number → ⊥
    pub is_row : (x : OpenInterval) → IsIn x (all_of [] rows) → (r : Reg) × IsOne r × (r.number ≡ x.number) × Interval x.number x.from x.to
    pub begins : (r : Reg) → IsOne r → r.loc ≢ loc.Unset → start r.number ≡ r.loc
    pub fixed : (f : FixedInterval) → IsIn f fs → (q : Reg) × IsOne q × (q.loc ≡ loc.Machine f.colour) × Interval q.number f.from f.to
    pub blocks : (x : OpenInterval) → IsIn x rows → (c : ℕ) → closed x c ≡ true → Blocks fs x c
    pub closes : (x : OpenInterval) (q : Reg) (c : ℕ) → IsIn x (all_of [] rows) → IsOne q → q.loc ≡ loc.Machine c → AreJoined x.number q.number → closed x c ≡ true
    pub meet : (x y : OpenInterval) → IsIn x (all_of [] rows) → IsIn y (all_of [] rows) → AreJoined x.number y.number → Meets x y
    pub symmetric : (n k : ℕ) → AreJoined n k → AreJoined k n
    pub apart_from_itself : (n : ℕ) → AreJoined n n → ⊥
    pub agree : LocationsAgree IsOne AreJoined

pub known : (IsOne : Reg → Type 0) (AreJoined : ℕ → ℕ → Type 0) (Interval : ℕ → ℕ → ℕ → Type 0) (closed : ClosedColours) (fs : List FixedInterval) (start : Colouring) (rows : List OpenInterval) →
    AreScanRows IsOne AreJoined Interval closed fs start rows → Known IsOne AreJoined Interval closed fs start rows
known IsOne AreJoined Interval closed fs start rows are =
    record {
      sorted = sorted_of rows are.by_start;
      open_row = λ r i e. let y = are.open_row r i e in (y.0, rows_in_all [] rows y.0 (in_of y.0 rows y.1), y.2, y.3);
      no_row = λ r i e x z q. are.no_row r i e x (its x z) q;
      is_row = λ x z. are.is_row x (its x z);
      begins = are.begins;
      fixed = λ f z. are.fixed f (contains_of z);
      blocks = λ x z c e. blocks_of fs x c (are.blocks x c (contains_of z) e);
      closes = λ x q c z i l j. are.closes x q c (its x z) i l j;
      meet = λ x y z w j. are.meet x y (its x z) (its y w) j;
      symmetric = are.symmetric;
      apart_from_itself = are.apart_from_itself;
      agree = are.agree;
    }
  where
    its : (x : OpenInterval) → IsIn x (all_of [] rows) → Contains rows x
    its x z = contains_of (rows_of rows x z)
