-- Lists up to the first part that none follows: what was read so far comes before what the rest gives.
use Rattle.std.proofs.Common.{◌≡◌, ℕ, ◌≤◌, ◌<◌, zero, suc, Bool, true, false, cond, List, [], ◌∷◌, ◌++◌, length, sym, ap, ◌∙◌, arith}
use Rattle.cmm_lex.specs.Token.{TokenTree}
use Rattle.cmm_grammar.specs.Reading.{Read, Stops, Why, Reader, bind, some_of}
use Rattle.cmm_nodes.specs.declared.stop.Stop.{Stop}
use Rattle.cmm_parts.specs.Results.{Fails}
use Rattle.cmm_parts.proofs.Lists.{with_front, front-none, front-more, fails-along}

some-next : {A : Type 0} (more : A → Bool) (one : Reader A) (bound : ℕ) (ts : List TokenTree) (a : A) (rest : List TokenTree)
    → one ts ≡ Read a rest
    → more a ≡ true
    → some_of more one (suc bound) ts ≡ bind (some_of more one bound rest) (λ others final. Read (a ∷ others) final)
some-next more one bound ts a rest e h =
    ap (λ o. bind o (λ a rest. cond (more a) (bind (some_of more one bound rest) (λ others final. Read (a ∷ others) final)) (Read (a ∷ []) rest))) e
    ∙ ap (λ b. cond b (bind (some_of more one bound rest) (λ others final. Read (a ∷ others) final)) (Read (a ∷ []) rest)) h

some-last : {A : Type 0} (more : A → Bool) (one : Reader A) (bound : ℕ) (ts : List TokenTree) (a : A) (rest : List TokenTree)
    → one ts ≡ Read a rest
    → more a ≡ false
    → some_of more one (suc bound) ts ≡ Read (a ∷ []) rest
some-last more one bound ts a rest e h =
    ap (λ o. bind o (λ a rest. cond (more a) (bind (some_of more one bound rest) (λ others final. Read (a ∷ others) final)) (Read (a ∷ []) rest))) e
    ∙ ap (λ b. cond b (bind (some_of more one bound rest) (λ others final. Read (a ∷ others) final)) (Read (a ∷ []) rest)) h

some-out : {A : Type 0} (more : A → Bool) (one : Reader A) (bound : ℕ) (ts : List TokenTree) (why : Why) (left : ℕ)
    → one ts ≡ Stops why left
    → some_of more one (suc bound) ts ≡ Stops why left
some-out more one bound ts why left e =
    ap (λ o. bind o (λ a rest. cond (more a) (bind (some_of more one bound rest) (λ others final. Read (a ∷ others) final)) (Read (a ∷ []) rest))) e

pub record Repeating {A : Type 0} (more : A → Bool) (one : Reader A) (whole : List TokenTree) (xs : List A) (rest : List TokenTree) : Type 0 where
  pub bound : ℕ
  pub room : length rest ≤ bound
  pub same : with_front xs (some_of more one (suc bound) rest) ≡ some_of more one (suc (length whole)) whole

pub repeating-start : {A : Type 0} (more : A → Bool) (one : Reader A) (whole : List TokenTree) → Repeating more one whole [] whole
repeating-start more one whole =
    record { bound = length whole; room = omega arith; same = front-none (some_of more one (suc (length whole)) whole) }

pub repeating-on : {A : Type 0} (more : A → Bool) (one : Reader A) (whole : List TokenTree) (xs : List A) (ts : List TokenTree)
    → Repeating more one whole xs ts
    → (a : A) (rest : List TokenTree)
    → one ts ≡ Read a rest
    → more a ≡ true
    → length rest < length ts
    → Repeating more one whole (xs ++ a ∷ []) rest
repeating-on {A} more one whole xs ts g a rest h e l = by_bound g.bound g.room g.same
  where
    by_bound : (bound : ℕ) → length ts ≤ bound → with_front xs (some_of more one (suc bound) ts) ≡ some_of more one (suc (length whole)) whole
        → Repeating more one whole (xs ++ a ∷ []) rest
    by_bound zero room same = absurd (omega arith)
    by_bound (suc bound) room same =
        record {
          bound = bound;
          room = omega arith;
          same =
              sym (front-more xs a (some_of more one (suc bound) rest))
              ∙ sym (ap (with_front xs) (some-next more one (suc bound) ts a rest h e))
              ∙ same;
        }

pub repeating-last : {A : Type 0} (more : A → Bool) (one : Reader A) (whole : List TokenTree) (xs : List A) (ts : List TokenTree)
    → Repeating more one whole xs ts
    → (a : A) (rest : List TokenTree)
    → one ts ≡ Read a rest
    → more a ≡ false
    → some_of more one (suc (length whole)) whole ≡ Read (xs ++ a ∷ []) rest
repeating-last more one whole xs ts g a rest h e = sym g.same ∙ ap (with_front xs) (some-last more one g.bound ts a rest h e)

pub repeating-out : {A : Type 0} (more : A → Bool) (one : Reader A) (whole : List TokenTree) (xs : List A) (ts : List TokenTree)
    → Repeating more one whole xs ts
    → (s : Stop)
    → Fails s (one ts)
    → Fails s (some_of more one (suc (length whole)) whole)
repeating-out more one whole xs ts g s h =
    fails-along s (one ts) (some_of more one (suc (length whole)) whole)
    (λ why left f. sym g.same ∙ ap (with_front xs) (some-out more one g.bound ts why left f)) h
