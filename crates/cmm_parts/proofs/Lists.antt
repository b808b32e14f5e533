-- Lists that are read one by one: what was read so far comes before what the rest gives.
use Rattle.std.proofs.Common.{◌≡◌, ℕ, ◌≤◌, zero, suc, Bool, true, false, cond, List, [], ◌∷◌, ◌++◌, length, refl, sym, ap, ◌∙◌, arith, append-nil, append_assoc}
use Rattle.cmm_lex.specs.Token.{TokenTree}
use Rattle.cmm_grammar.specs.Reading.{ReadOutcome, Read, Stops, Why, Stuck, Reader, bind, many}
use Rattle.cmm_nodes.specs.declared.stop.Stop.{Stop}
use Rattle.cmm_nodes.specs.declared.stop.Stop.TheVariants.{Unexpected, TooDeep, OutOfMemory}
use Rattle.cmm_parts.specs.Results.{Fails}

-- a list whose front was read before
abbrev pub with_front : {A : Type 0} → List A → ReadOutcome (List A) → ReadOutcome (List A)
with_front xs (Read more rest) = Read (xs ++ more) rest
with_front xs (Stops why left) = Stops why left

pub front-none : {A : Type 0} (o : ReadOutcome (List A)) → with_front [] o ≡ o
front-none (Read more rest) = refl
front-none (Stops why left) = refl

pub front-more : {A : Type 0} (xs : List A) (a : A) (o : ReadOutcome (List A))
    → with_front xs (bind o (λ more final. Read (a ∷ more) final)) ≡ with_front (xs ++ a ∷ []) o
front-more xs a (Read more rest) = ap (λ v. Read v rest) (sym (append_assoc xs (a ∷ []) more))
front-more xs a (Stops why left) = refl

-- where the rest stops, the whole does
pub fails-along : {A B : Type 0} (e : Stop) (o : ReadOutcome A) (whole : ReadOutcome B)
    → ((why : Why) (left : ℕ) → o ≡ Stops why left → whole ≡ Stops why left)
    → Fails e o
    → Fails e whole
fails-along (Unexpected left) o whole f h = f _ left h
fails-along (TooDeep left) o whole f h = f _ left h
fails-along OutOfMemory o whole f h = tt

-- ---- up to a token

many-stop : {A : Type 0} (stop : TokenTree → Bool) (one : Reader A) (bound : ℕ) (t : TokenTree) (ts : List TokenTree)
    → stop t ≡ true
    → many stop one bound (t ∷ ts) ≡ Read [] (t ∷ ts)
many-stop stop one zero t ts e = ap (λ b. cond b (Read [] (t ∷ ts)) (Stops Stuck (suc (length ts)))) e
many-stop stop one (suc bound) t ts e =
    ap (λ b. cond b (Read [] (t ∷ ts)) (bind (one (t ∷ ts)) (λ a rest. bind (many stop one bound rest) (λ more final. Read (a ∷ more) final)))) e

many-next : {A : Type 0} (stop : TokenTree → Bool) (one : Reader A) (bound : ℕ) (t : TokenTree) (ts : List TokenTree)
    → stop t ≡ false
    → many stop one (suc bound) (t ∷ ts)
    ≡ bind (one (t ∷ ts)) (λ a rest. bind (many stop one bound rest) (λ more final. Read (a ∷ more) final))
many-next stop one bound t ts e =
    ap (λ b. cond b (Read [] (t ∷ ts)) (bind (one (t ∷ ts)) (λ a rest. bind (many stop one bound rest) (λ more final. Read (a ∷ more) final)))) e

many-end : {A : Type 0} (stop : TokenTree → Bool) (one : Reader A) (bound : ℕ) → many stop one bound [] ≡ Stops Stuck 0
many-end stop one zero = refl
many-end stop one (suc bound) = refl

-- what was read so far of the whole, and what is left
pub record Going {A : Type 0} (stop : TokenTree → Bool) (one : Reader A) (whole : List TokenTree) (xs : List A) (rest : List TokenTree) : Type 0 where
  pub bound : ℕ
  pub room : length rest ≤ bound
  pub same : with_front xs (many stop one bound rest) ≡ many stop one (length whole) whole

pub going-start : {A : Type 0} (stop : TokenTree → Bool) (one : Reader A) (whole : List TokenTree) → Going stop one whole [] whole
going-start stop one whole = record { bound = length whole; room = omega arith; same = front-none (many stop one (length whole) whole) }

pub going-on : {A : Type 0} (stop : TokenTree → Bool) (one : Reader A) (whole : List TokenTree) (xs : List A) (t : TokenTree) (ts : List TokenTree)
    → Going stop one whole xs (t ∷ ts)
    → stop t ≡ false
    → (a : A) (rest : List TokenTree)
    → one (t ∷ ts) ≡ Read a rest
    → length rest ≤ length ts
    → Going stop one whole (xs ++ a ∷ []) rest
going-on {A} stop one whole xs t ts g e a rest h l = by_bound g.bound g.room g.same
  where
    by_bound : (bound : ℕ) → length (t ∷ ts) ≤ bound → with_front xs (many stop one bound (t ∷ ts)) ≡ many stop one (length whole) whole
        → Going stop one whole (xs ++ a ∷ []) rest
    by_bound zero room same = absurd (omega arith)
    by_bound (suc bound) room same =
        record {
          bound = bound;
          room = omega arith;
          same =
              sym (front-more xs a (many stop one bound rest))
              ∙ sym (ap (λ o. with_front xs (bind o (λ a rest. bind (many stop one bound rest) (λ more final. Read (a ∷ more) final)))) h)
              ∙ sym (ap (with_front xs) (many-next stop one bound t ts e))
              ∙ same;
        }

pub going-stop : {A : Type 0} (stop : TokenTree → Bool) (one : Reader A) (whole : List TokenTree) (xs : List A) (t : TokenTree) (ts : List TokenTree)
    → Going stop one whole xs (t ∷ ts)
    → stop t ≡ true
    → many stop one (length whole) whole ≡ Read xs (t ∷ ts)
going-stop stop one whole xs t ts g e =
    sym g.same ∙ ap (with_front xs) (many-stop stop one g.bound t ts e) ∙ ap (λ v. Read v (t ∷ ts)) (append-nil xs)

pub going-end : {A : Type 0} (stop : TokenTree → Bool) (one : Reader A) (whole : List TokenTree) (xs : List A) (rest : List TokenTree)
    → Going stop one whole xs rest
    → rest ≡ []
    → many stop one (length whole) whole ≡ Stops Stuck 0
going-end stop one whole xs rest g e =
    sym g.same ∙ ap (λ v. with_front xs (many stop one g.bound v)) e ∙ ap (with_front xs) (many-end stop one g.bound)

pub going-out : {A : Type 0} (stop : TokenTree → Bool) (one : Reader A) (whole : List TokenTree) (xs : List A) (t : TokenTree) (ts : List TokenTree)
    → Going stop one whole xs (t ∷ ts)
    → stop t ≡ false
    → (s : Stop)
    → Fails s (one (t ∷ ts))
    → Fails s (many stop one (length whole) whole)
going-out {A} stop one whole xs t ts g e s h = fails-along s (one (t ∷ ts)) (many stop one (length whole) whole) (λ why left f. by_bound g.bound g.room g.same why left f) h
  where
    by_bound : (bound : ℕ) → length (t ∷ ts) ≤ bound → with_front xs (many stop one bound (t ∷ ts)) ≡ many stop one (length whole) whole
        → (why : Why) (left : ℕ) → one (t ∷ ts) ≡ Stops why left → many stop one (length whole) whole ≡ Stops why left
    by_bound zero room same why left f = absurd (omega arith)
    by_bound (suc bound) room same why left f =
        sym same
        ∙ ap (with_front xs) (many-next stop one bound t ts e)
        ∙ ap (λ o. with_front xs (bind o (λ a rest. bind (many stop one bound rest) (λ more final. Read (a ∷ more) final)))) f
