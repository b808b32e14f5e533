-- No tokens are two of these, nor one of them at two places: items, items that end inside a form, an unexpected token,
-- a parenthesis that is too deep.
use Rattle.std.proofs.Common.{◌≡◌, ℕ, ◌+◌, zero, suc, List, [], ◌∷◌, ◌++◌, length, refl, sym, ap, subst, ◌∙◌, arith, append_assoc, length-append}
use Rattle.cmm_lex.specs.Token.{TokenTree}
use Rattle.cmm_tree.specs.Tree.{ItemTree}
use Rattle.cmm_grammar.specs.Spelling.{BeginsText, nesting}
use Rattle.cmm_grammar.specs.Faults.{Unexpected, TooDeep, EndsInside, HasBadToken}
use Rattle.cmm_grammar.specs.Reading.{ReadOutcome, Read, Stops, Stuck, Deep, items_at}
use Rattle.cmm_grammar.proofs.Places.{begins_less, items_begin, read_items, stuck_end, stuck_token, deep_token}

-- a text begins with the tokens before, and none with this one after them, where parentheses nest no deeper than they may
pub record Bars (before : List TokenTree) (bad : TokenTree) : Type 0 where
  pub so_far : BeginsText nesting before
  pub no_further : BeginsText nesting (before ++ (bad ∷ [])) → ⊥

abbrev pub unexpected_bars : (ts : List TokenTree) (left : ℕ) → HasBadToken Unexpected ts left → HasBadToken Bars ts left
unexpected_bars ts left h = record {
  before = h.before;
  bad = h.bad;
  behind = h.behind;
  whole = h.whole;
  is_left = h.is_left;
  holds = record { so_far = h.holds.so_far; no_further = h.holds.no_further nesting };
}

abbrev pub deep_bars : (ts : List TokenTree) (left : ℕ) → HasBadToken TooDeep ts left → HasBadToken Bars ts left
deep_bars ts left h = record {
  before = h.before;
  bad = h.bad;
  behind = h.behind;
  whole = h.whole;
  is_left = h.is_left;
  holds = record { so_far = h.holds.so_far; no_further = h.holds.no_further };
}

-- of two tokens of a text, which one comes first
data Order (b1 : List TokenTree) (a1 : TokenTree) (b2 : List TokenTree) (a2 : TokenTree) : Type 0 where
  same : b1 ≡ b2 → a1 ≡ a2 → Order b1 a1 b2 a2
  earlier : (w : List TokenTree) → b2 ≡ (b1 ++ (a1 ∷ [])) ++ w → Order b1 a1 b2 a2
  later : (w : List TokenTree) → b1 ≡ (b2 ++ (a2 ∷ [])) ++ w → Order b1 a1 b2 a2

pushed : (t u : TokenTree) (b1 : List TokenTree) (a1 : TokenTree) (b2 : List TokenTree) (a2 : TokenTree) → t ≡ u → Order b1 a1 b2 a2 → Order (t ∷ b1) a1 (u ∷ b2) a2
pushed t u b1 a1 b2 a2 e (same p q) =
    let r : t ∷ b1 ≡ u ∷ b2 = ap (λ (v : TokenTree). v ∷ b1) e ∙ ap (λ (v : List TokenTree). u ∷ v) p in
    same r q
pushed t u b1 a1 b2 a2 e (earlier w p) =
    earlier w (ap (λ (v : TokenTree). v ∷ b2) (sym e) ∙ ap (λ (v : List TokenTree). t ∷ v) p)
pushed t u b1 a1 b2 a2 e (later w p) =
    later w (ap (λ (v : TokenTree). v ∷ b1) e ∙ ap (λ (v : List TokenTree). u ∷ v) p)

order : (b1 : List TokenTree) (a1 : TokenTree) (c1 b2 : List TokenTree) (a2 : TokenTree) (c2 : List TokenTree) → b1 ++ (a1 ∷ c1) ≡ b2 ++ (a2 ∷ c2) → Order b1 a1 b2 a2
order [] a1 c1 [] a2 c2 e = same refl cc
order [] a1 c1 (u ∷ b2) a2 c2 e = earlier b2 cc
order (t ∷ b1) a1 c1 [] a2 c2 e = later b1 cc
order (t ∷ b1) a1 c1 (u ∷ b2) a2 c2 e =
    let x : t ≡ u = cc in
    let y : b1 ++ (a1 ∷ c1) ≡ b2 ++ (a2 ∷ c2) = cc in
    pushed t u b1 a1 b2 a2 x (order b1 a1 c1 b2 a2 c2 y)

-- two tokens of a text that bar it are one
pub record OneBar (b1 : List TokenTree) (a1 : TokenTree) (b2 : List TokenTree) (a2 : TokenTree) : Type 0 where
  pub before : b1 ≡ b2
  pub bad : a1 ≡ a2

pub one_bar : (ts : List TokenTree) (m n : ℕ) (x : HasBadToken Bars ts m) (y : HasBadToken Bars ts n) → OneBar x.before x.bad y.before y.bad
one_bar ts m n x y = go (order x.before x.bad x.behind y.before y.bad y.behind (sym x.whole ∙ y.whole))
  where
    go : Order x.before x.bad y.before y.bad → OneBar x.before x.bad y.before y.bad
    go (same p q) = record { before = p; bad = q }
    go (earlier w p) =
        absurd (x.holds.no_further (begins_less nesting (x.before ++ (x.bad ∷ [])) w (subst (λ (v : List TokenTree). BeginsText nesting v) p y.holds.so_far)))
    go (later w p) =
        absurd (y.holds.no_further (begins_less nesting (y.before ++ (y.bad ∷ [])) w (subst (λ (v : List TokenTree). BeginsText nesting v) p x.holds.so_far)))

place : (ts : List TokenTree) (left : ℕ) (x : HasBadToken Bars ts left) → length ts ≡ length x.before + left
place ts left x =
    let w = ap length x.whole in
    let l = x.is_left in
    omega (arith, w, l, length-append x.before (x.bad ∷ x.behind))

pub one_place : (ts : List TokenTree) (m n : ℕ) → HasBadToken Bars ts m → HasBadToken Bars ts n → m ≡ n
one_place ts m n x y =
    let p = ap length (one_bar ts m n x y).before in
    let q = place ts m x in
    let r = place ts n y in
    omega (arith, p, q, r)

-- no text begins with tokens of which one bars it
pub barred : (ts : List TokenTree) (left : ℕ) → HasBadToken Bars ts left → BeginsText nesting ts → ⊥
barred ts left x b =
    let w : ts ≡ (x.before ++ (x.bad ∷ [])) ++ x.behind = x.whole ∙ sym (append_assoc x.before (x.bad ∷ []) x.behind) in
    x.holds.no_further (begins_less nesting (x.before ++ (x.bad ∷ [])) x.behind (subst (λ (v : List TokenTree). BeginsText nesting v) w b))

-- a token that is unexpected is not too deep
pub not_both_faults : (ts : List TokenTree) (m n : ℕ) → HasBadToken Unexpected ts m → HasBadToken TooDeep ts n → ⊥
not_both_faults ts m n x y =
    let z = one_bar ts m n (unexpected_bars ts m x) (deep_bars ts n y) in
    let w : y.before ++ (y.bad ∷ []) ≡ x.before ++ (x.bad ∷ []) = ap (λ (v : List TokenTree). v ++ (y.bad ∷ [])) (sym z.before) ∙ ap (λ (v : TokenTree). x.before ++ (v ∷ [])) (sym z.bad) in
    x.holds.no_further (suc nesting) (subst (λ (v : List TokenTree). BeginsText (suc nesting) v) w y.holds.deeper)

-- ---- reading reports each

-- an unexpected token stops reading
pub unexpected_stops : (ts : List TokenTree) (left : ℕ) → HasBadToken Unexpected ts left → items_at nesting ts ≡ Stops Stuck left
unexpected_stops ts left x = go (items_at nesting ts) refl
  where
    go : (o : ReadOutcome (List ItemTree)) → items_at nesting ts ≡ o → items_at nesting ts ≡ Stops Stuck left
    go (Read items rest) p = absurd (barred ts left (unexpected_bars ts left x) (items_begin nesting items ts (read_items ts items rest p).are))
    go (Stops Stuck zero) p = absurd (barred ts left (unexpected_bars ts left x) (stuck_end ts p).so_far)
    go (Stops Stuck (suc n)) p =
        let y = stuck_token ts (suc n) p (omega arith) in
        p ∙ ap (λ (v : ℕ). Stops Stuck v) (one_place ts (suc n) left (unexpected_bars ts (suc n) y) (unexpected_bars ts left x))
    go (Stops Deep n) p = absurd (not_both_faults ts left n x (deep_token ts n p))

-- a parenthesis that is too deep does
pub deep_stops : (ts : List TokenTree) (left : ℕ) → HasBadToken TooDeep ts left → items_at nesting ts ≡ Stops Deep left
deep_stops ts left x = go (items_at nesting ts) refl
  where
    go : (o : ReadOutcome (List ItemTree)) → items_at nesting ts ≡ o → items_at nesting ts ≡ Stops Deep left
    go (Read items rest) p = absurd (barred ts left (deep_bars ts left x) (items_begin nesting items ts (read_items ts items rest p).are))
    go (Stops Stuck zero) p = absurd (barred ts left (deep_bars ts left x) (stuck_end ts p).so_far)
    go (Stops Stuck (suc n)) p = absurd (not_both_faults ts (suc n) left (stuck_token ts (suc n) p (omega arith)) x)
    go (Stops Deep n) p =
        let y = deep_token ts n p in
        p ∙ ap (λ (v : ℕ). Stops Deep v) (one_place ts n left (deep_bars ts n y) (deep_bars ts left x))

-- and so does the end of tokens inside a form
pub inside_stops : (ts : List TokenTree) → EndsInside ts → items_at nesting ts ≡ Stops Stuck 0
inside_stops ts x = go (items_at nesting ts) refl
  where
    go : (o : ReadOutcome (List ItemTree)) → items_at nesting ts ≡ o → items_at nesting ts ≡ Stops Stuck 0
    go (Read items rest) p = absurd (x.no_end nesting items (read_items ts items rest p).are)
    go (Stops Stuck zero) p = p
    go (Stops Stuck (suc n)) p = absurd (barred ts (suc n) (unexpected_bars ts (suc n) (stuck_token ts (suc n) p (omega arith))) x.so_far)
    go (Stops Deep n) p = absurd (barred ts n (deep_bars ts n (deep_token ts n p)) x.so_far)
