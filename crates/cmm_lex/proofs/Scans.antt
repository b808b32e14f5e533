-- The scan of the automaton finds the longest token.
use Rattle.std.proofs.Common.{◌≡◌, ℕ, ◌+◌, ◌<◌, ◌≤◌, suc, Bool, true, false, cond, ◌⊎◌, List, [], ◌∷◌, ◌++◌, length, get_or, Option, Some, None, refl, sym, ap, subst, ◌∙◌, inl, inr, arith}
use Rattle.cmm_lex.specs.declared.state.Shape.{Shape}
use Rattle.cmm_lex.specs.declared.state.State.{State}
use Rattle.cmm_lex.specs.declared.state.State.TheVariants.{Start, Name, Number, Operator, Done, Dead}
use Rattle.cmm_lex.specs.Automaton.{run, state_after_byte, accepts, is_dead, better, scan}
use Rattle.cmm_lex.proofs.Pairs.{some_pair}
use Rattle.cmm_lex.proofs.Languages.{AreBytes}

-- from this state no front of the bytes that is longer than n is a token
abbrev NoneBeyond : State → ℕ → List ℕ → Type 0
NoneBeyond s n bs = (xs ys : List ℕ) (k : Shape) → bs ≡ xs ++ ys → accepts (run s xs) ≡ Some k → length xs ≤ n

-- a longest token of the bytes, with what the scan reports of it
abbrev Found : State → ℕ → List ℕ → Option (Shape × ℕ) → Type 0
Found s n bs r =
    (k : Shape) × (xs ys : List ℕ) × (bs ≡ xs ++ ys) × (accepts (run s xs) ≡ Some k) × (r ≡ Some (k, n + length xs)) × NoneBeyond s (length xs) bs

abbrev Scanned : State → ℕ → Option (Shape × ℕ) → List ℕ → Option (Shape × ℕ) → Type 0
Scanned s n found bs r = ((r ≡ found) × NoneBeyond s 0 bs) ⊎ Found s n bs r

pub run-dead : (xs : List ℕ) → accepts (run Dead xs) ≡ None
unfolding accepts state_after_byte
run-dead [] = refl
run-dead (x ∷ xs) = run-dead xs

pub dead-is : (s : State) → is_dead s ≡ true → s ≡ Dead
dead-is Dead e = refl
dead-is Start e = cc
dead-is (Name part) e = cc
dead-is (Number part) e = cc
dead-is (Operator part) e = cc
dead-is (Done k) e = cc

none_beyond-dead : (s : State) (b : ℕ) (bs : List ℕ) → is_dead (state_after_byte s b) ≡ true → NoneBeyond s 0 (b ∷ bs)
none_beyond-dead s b bs dead [] ys k e a = omega arith
none_beyond-dead s b bs dead (x ∷ xs) ys k e a =
    let same : b ≡ x = cc in
    let at_dead : state_after_byte s x ≡ Dead = ap (state_after_byte s) (sym same) ∙ dead-is (state_after_byte s b) dead in
    let none : accepts (run (state_after_byte s x) xs) ≡ None = ap (λ (t : State). accepts (run t xs)) at_dead ∙ run-dead xs in
    cc

-- one byte more
none_beyond-more : (s : State) (n b : ℕ) (bs : List ℕ) → NoneBeyond (state_after_byte s b) n bs → NoneBeyond s (suc n) (b ∷ bs)
none_beyond-more s n b bs h [] ys k e a = omega arith
none_beyond-more s n b bs h (x ∷ xs) ys k e a =
    let same : x ≡ b = cc in
    let rest : bs ≡ xs ++ ys = cc in
    let shorter = h xs ys k rest (subst (λ (v : ℕ). accepts (run (state_after_byte s v) xs) ≡ Some k) same a) in
    omega arith

none_beyond-first : (s : State) (b : ℕ) (bs : List ℕ) → accepts (state_after_byte s b) ≡ None → NoneBeyond (state_after_byte s b) 0 bs → NoneBeyond s 0 (b ∷ bs)
none_beyond-first s b bs none h [] ys k e a = omega arith
none_beyond-first s b bs none h (x ∷ xs) ys k e a =
    let same : x ≡ b = cc in
    let rest : bs ≡ xs ++ ys = cc in
    let a' : accepts (run (state_after_byte s b) xs) ≡ Some k = subst (λ (v : ℕ). accepts (run (state_after_byte s v) xs) ≡ Some k) same a in
    absurd (no_end xs (h xs ys k rest a') a')
  where
    no_end : (us : List ℕ) → length us ≤ 0 → accepts (run (state_after_byte s b) us) ≡ Some k → ⊥
    no_end [] short a'' = cc
    no_end (u ∷ us) short a'' = absurd (omega arith)

scanned-step : (s : State) (n b : ℕ) (found : Option (Shape × ℕ)) (bs : List ℕ) (r : Option (Shape × ℕ)) (o : Option Shape)
    → accepts (state_after_byte s b) ≡ o
    → Scanned (state_after_byte s b) (n + 1) (better o (n + 1) found) bs r
    → Scanned s n found (b ∷ bs) r
scanned-step s n b found bs r None e (inl h) = inl (h.0, none_beyond-first s b bs e h.1)
scanned-step s n b found bs r (Some k) e (inl h) =
    inr (k, b ∷ [], bs, refl, e, h.0, none_beyond-more s 0 b bs h.1)
scanned-step s n b found bs r o e (inr h) =
    let p = h in
    let len : n + 1 + length p.1 ≡ n + length (b ∷ p.1) = omega arith in
    inr (p.0, b ∷ p.1, p.2, ap (λ (v : List ℕ). b ∷ v) p.3, p.4, p.5 ∙ ap (λ (v : ℕ). Some (p.0, v)) len, none_beyond-more s (length p.1) b bs p.6)

scan-is : (s : State) (n : ℕ) (found : Option (Shape × ℕ)) (bs : List ℕ) → Scanned s n found bs (scan s n found bs)
unfolding scan
scan-is s n found [] = inl (refl, λ xs ys k e a. at_end xs ys e)
  where
    at_end : (xs ys : List ℕ) → [] ≡ xs ++ ys → length xs ≤ 0
    at_end [] ys e = omega arith
    at_end (x ∷ xs) ys e = cc
scan-is s n found (b ∷ bs) =
    at_test (is_dead (state_after_byte s b)) refl (scan-is (state_after_byte s b) (n + 1) (better (accepts (state_after_byte s b)) (n + 1) found) bs)
  where
    at_test : (t : Bool) → is_dead (state_after_byte s b) ≡ t
        → Scanned (state_after_byte s b) (n + 1) (better (accepts (state_after_byte s b)) (n + 1) found) bs (scan (state_after_byte s b) (n + 1) (better (accepts (state_after_byte s b)) (n + 1) found) bs)
        → Scanned s n found (b ∷ bs) (cond t found (scan (state_after_byte s b) (n + 1) (better (accepts (state_after_byte s b)) (n + 1) found) bs))
    at_test true dead h = inl (refl, none_beyond-dead s b bs dead)
    at_test false alive h = scanned-step s n b found bs _ (accepts (state_after_byte s b)) refl h

pub AreBytes-from : (xs : List ℕ) → ((i : ℕ) → get_or xs i 0 < 256) → AreBytes xs
AreBytes-from [] h = tt
AreBytes-from (x ∷ xs) h = (h 0, AreBytes-from xs (λ i. h (suc i)))

pub AreBytes-back : (xs ys : List ℕ) → AreBytes (xs ++ ys) → AreBytes ys
AreBytes-back [] ys h = h
AreBytes-back (x ∷ xs) ys h = AreBytes-back xs ys h.1

pub AreBytes-front : (xs ys : List ℕ) → AreBytes (xs ++ ys) → AreBytes xs
AreBytes-front [] ys h = tt
AreBytes-front (x ∷ xs) ys h = (h.0, AreBytes-front xs ys h.1)

no_start : (text : List ℕ) → length text ≤ 0 → (k : Shape) → accepts (run Start text) ≡ Some k → ⊥
unfolding accepts
no_start [] short k a = cc
no_start (b ∷ bs) short k a = omega arith

-- what the scan reports: the longest front that is accepted
pub record Longest (bytes : List ℕ) (k : Shape) (n : ℕ) : Type 0 where
  pub text : List ℕ
  pub rest : List ℕ
  pub len : length text ≡ n
  pub whole : bytes ≡ text ++ rest
  pub accepted : accepts (run Start text) ≡ Some k
  pub none_longer : (xs ys : List ℕ) (j : Shape) → bytes ≡ xs ++ ys → accepts (run Start xs) ≡ Some j → length xs ≤ n

pub scan-token : (bytes : List ℕ) (k : Shape) (n : ℕ) → scan Start 0 None bytes ≡ Some (k, n) → Longest bytes k n
scan-token bytes k n e = of_scanned (scan-is Start 0 None bytes)
  where
    of_scanned : Scanned Start 0 None bytes (scan Start 0 None bytes) → Longest bytes k n
    of_scanned (inl h) = let wrong = h.0 in cc
    of_scanned (inr h) =
        let told : ◌≡◌ {A = Option (Shape × ℕ)} (Some (h.0, 0 + length h.1)) (Some (k, n)) = sym h.5 ∙ e in
        let p = some_pair _ _ _ _ told in
        let size : length h.1 ≡ n = omega (arith, p.1) in
        record {
          text = h.1;
          rest = h.2;
          len = size;
          whole = h.3;
          accepted = h.4 ∙ ap Some p.0;
          none_longer = λ xs ys j whole a. let short = h.6 xs ys j whole a in omega (arith, short, size);
        }

-- where it reports none, no front is accepted
pub scan-none : (bytes : List ℕ) → scan Start 0 None bytes ≡ None
    → (xs ys : List ℕ) (k : Shape) → bytes ≡ xs ++ ys → accepts (run Start xs) ≡ Some k → ⊥
scan-none bytes e = of_scanned (scan-is Start 0 None bytes)
  where
    of_scanned : Scanned Start 0 None bytes (scan Start 0 None bytes)
        → (xs ys : List ℕ) (k : Shape) → bytes ≡ xs ++ ys → accepts (run Start xs) ≡ Some k → ⊥
    of_scanned (inl h) = λ xs ys k whole accepted. no_start xs (h.1 xs ys k whole accepted) k accepted
    of_scanned (inr h) = let wrong = h.5 in absurd (cc)

-- the steps of the loop
pub scan-alive : (s t : State) (n b : ℕ) (found : Option (Shape × ℕ)) (xs tail : List ℕ) (o : Option Shape)
    → xs ≡ b ∷ tail
    → t ≡ state_after_byte s b
    → is_dead t ≡ false
    → o ≡ accepts t
    → scan t (n + 1) (better o (n + 1) found) tail ≡ scan s n found xs
unfolding scan
scan-alive s t n b found xs tail o front goes alive said =
    let dead : is_dead (state_after_byte s b) ≡ false = subst (λ (v : State). is_dead v ≡ false) goes alive in
    rw (front, said, goes, dead) refl

pub scan-dead : (s t : State) (n b : ℕ) (found : Option (Shape × ℕ)) (xs tail : List ℕ)
    → xs ≡ b ∷ tail
    → t ≡ state_after_byte s b
    → is_dead t ≡ true
    → found ≡ scan s n found xs
unfolding scan
scan-dead s t n b found xs tail front goes alive =
    let dead : is_dead (state_after_byte s b) ≡ true = subst (λ (v : State). is_dead v ≡ true) goes alive in
    rw (front, dead) refl

pub scan-empty : (s : State) (n : ℕ) (found : Option (Shape × ℕ)) (xs : List ℕ) → length xs ≡ 0 → found ≡ scan s n found xs
unfolding scan
scan-empty s n found [] e = refl
scan-empty s n found (x ∷ xs) e = absurd (omega arith)

-- lists that are cut at one length in two ways are cut alike
pub same_parts : {A : Type 0} (xs ys us vs : List A) → xs ++ ys ≡ us ++ vs → length xs ≡ length us → (xs ≡ us) × (ys ≡ vs)
same_parts [] ys [] vs e len = (refl, e)
same_parts [] ys (u ∷ us) vs e len = absurd (omega arith)
same_parts (x ∷ xs) ys [] vs e len = absurd (omega arith)
same_parts (x ∷ xs) ys (u ∷ us) vs e len =
    let head : x ≡ u = cc in
    let tail : xs ++ ys ≡ us ++ vs = cc in
    let rest = same_parts xs ys us vs tail (omega arith) in
    let front = rest.0 in
    (cc, rest.1)
