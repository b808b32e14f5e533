-- Where something held last in a list.
use Rattle.std.proofs.Common.{◌≡◌, ◌∙◌, ◌⊎◌, inl, inr, ⊎_elim, ℕ, zero, suc, ◌≤◌, ◌<◌, Bool, true, false, cond, List, [], ◌∷◌, ◌++◌, length, refl, sym, ap, arith}
use Rattle.std.proofs.lemmas.Bool.{cases_lt}
use Rattle.std.specs.List.{Contains}
use Rattle.bs_words.proofs.Lists.{none_in, first_in, later_in, in_cons}
use Rattle.cse_deadcode.specs.Last.{or_before, last}
use Rattle.bs_words.proofs.Truths.{not_both}

-- none here passes
abbrev pub AreQuiet : {X : Type 0} → (X → Bool) → List X → Type 0
AreQuiet {X} test xs = (x : X) → Contains xs x → test x ≡ false

module _ {X : Type 0} (test : X → Bool) where
  -- ---- one more at the end

  after_one : (b : Bool) → or_before b 0 ≡ cond b 1 0
  after_one true = refl
  after_one false = refl

  over : (a b : Bool) (n m : ℕ) → or_before a (cond b (suc n) m) ≡ cond b (suc (suc n)) (or_before a m)
  over a true n m = refl
  over a false n m = refl

  pub last_more : (xs : List X) (x : X) → last test (xs ++ x ∷ []) ≡ cond (test x) (suc (length xs)) (last test xs)
  last_more [] x = after_one (test x)
  last_more (y ∷ xs) x =
      ap (or_before (test y)) (last_more xs x) ∙ over (test y) (test x) (length xs) (last test xs)

  -- ---- where it held

  pub record Found (code : List X) (n : ℕ) : Type 0 where
    pub others : List X
    pub found : X
    pub run : List X
    pub within : code ≡ others ++ found ∷ run
    pub place : length others ≡ n
    pub holds : test found ≡ true

  none_suc : (n : ℕ) → 0 ≡ suc n → ⊥
  none_suc n e = omega (arith, e)

  found_past : (x : X) (code : List X) (m n : ℕ) → suc (suc m) ≡ suc n → Found code m → Found (x ∷ code) n
  found_past x code m n e f =
      let place : suc (length f.others) ≡ n = let p = f.place in omega (arith, p, e) in
      record {
        others = x ∷ f.others;
        found = f.found;
        run = f.run;
        within = ap (λ xs. x ∷ xs) f.within;
        place = place;
        holds = f.holds;
      }

  found_first : (x : X) (code : List X) (b : Bool) (m n : ℕ) → test x ≡ b → or_before b m ≡ suc n →
      ((k : ℕ) → m ≡ suc k → Found code k) → Found (x ∷ code) n
  found_first x code true zero n h e f =
      let place : 0 ≡ n = omega (arith, e) in
      record { others = []; found = x; run = code; within = refl; place = place; holds = h }
  found_first x code false zero n h e f = absurd (none_suc n e)
  found_first x code true (suc m) n h e f = found_past x code m n e (f m refl)
  found_first x code false (suc m) n h e f = found_past x code m n e (f m refl)

  pub find : (code : List X) (n : ℕ) → last test code ≡ suc n → Found code n
  find [] n e = absurd (none_suc n e)
  find (x ∷ code) n e = found_first x code (test x) (last test code) n refl e (λ k h. find code k h)

  -- ---- nothing after

  low : (b : Bool) (m n : ℕ) → or_before b m ≤ suc n → m ≤ n
  low true zero n e = omega arith
  low false zero n e = omega arith
  low true (suc m) n e = omega (arith, e)
  low false (suc m) n e = omega (arith, e)

  high : (b : Bool) (m n : ℕ) → m ≤ n → or_before b m ≤ suc n
  high true zero n e = omega arith
  high false zero n e = omega arith
  high true (suc m) n e = omega (arith, e)
  high false (suc m) n e = omega (arith, e)

  none_first : (b : Bool) (m : ℕ) → or_before b m ≤ 0 → b ≡ false
  none_first true zero e = absurd (omega (arith, e))
  none_first false m e = refl
  none_first true (suc m) e = absurd (omega (arith, e))

  none_later : (b : Bool) (m : ℕ) → or_before b m ≤ 0 → m ≤ 0
  none_later b zero e = omega arith
  none_later true (suc m) e = absurd (omega (arith, e))
  none_later false (suc m) e = absurd (omega (arith, e))

  none_both : (b : Bool) (m : ℕ) → b ≡ false → m ≤ 0 → or_before b m ≤ 0
  none_both true m e h = absurd (not_both true refl e)
  none_both false zero e h = omega arith
  none_both false (suc m) e h = absurd (omega (arith, h))

  pub quiet_past : (others run : List X) → last test (others ++ run) ≤ length others → AreQuiet test run
  quiet_past [] [] e = λ x c. absurd (none_in x c)
  quiet_past [] (r ∷ run) e =
      λ x c.
      ⊎_elim (λ h. ap test (sym h) ∙ none_first (test r) (last test run) e)
      (λ d. quiet_past [] run (none_later (test r) (last test run) e) x d) (in_cons r x run c)
  quiet_past (o ∷ others) run e =
      quiet_past others run (low (test o) (last test (others ++ run)) (length others) e)

  pub past_quiet : (others run : List X) → AreQuiet test run → last test (others ++ run) ≤ length others
  past_quiet [] [] q = omega arith
  past_quiet [] (r ∷ run) q =
      none_both (test r) (last test run) (q r (first_in r run)) (past_quiet [] run (λ x c. q x (later_in r x run c)))
  past_quiet (o ∷ others) run q =
      high (test o) (last test (others ++ run)) (length others) (past_quiet others run q)

  -- it held there or later
  pub last_from : (others run : List X) (x : X) → test x ≡ true → length others < last test (others ++ x ∷ run)
  last_from others run x h =
      by (cases_lt (length others) (last test (others ++ x ∷ run)))
    where
      by : (length others < last test (others ++ x ∷ run)) ⊎ (last test (others ++ x ∷ run) ≤ length others) →
          length others < last test (others ++ x ∷ run)
      by (inl lt) = lt
      by (inr le) = absurd (not_both (test x) h (quiet_past others (x ∷ run) le x (first_in x run)))
