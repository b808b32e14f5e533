-- Labels that are between two places.
use Rattle.std.proofs.Common.{◌≡◌, ℕ, ◌+◌, ◌<◌, ◌≤◌, List, ◌∷◌, length, drop, get_or, refl, sym, ap, ◌∙◌, subst, arith}
use Rattle.std.proofs.lemmas.List.{drop_more, length-drop}
use Rattle.lin_ir.specs.Formed.{bare_flow}
use Rattle.lin_ir.specs.declared.lin.Flow.TheVariants as flow
use Rattle.lin_ir.specs.declared.lin.Line.{Line}
use Rattle.lin_tidy_rules.specs.Leaving.{LabelsBetween, none_between, label_between}

pub drop_line : (code : List Line) (k : ℕ) (i : Line) → k < length code → i ≡ get_or code k i → drop k code ≡ i ∷ drop (k + 1) code
drop_line code k i lt e = drop_more code k i lt ∙ ap (λ j. j ∷ drop (k + 1) code) (sym e)

shorter : {a b : List Line} → LabelsBetween a b → length b ≤ length a
shorter {a} none_between = omega arith
shorter (label_between p) = let le = shorter p in omega (arith, le)

inner : {i : Line} {a b : List Line} → LabelsBetween (i ∷ a) b → length b ≤ length a → ((l : ℕ) × (i ≡ bare_flow (flow.Label l))) × LabelsBetween a b
inner {i} {a} none_between le = absurd (omega (arith, le))
inner (label_between {l = l} p) le = ((l, refl), p)

-- ---- from one place to another

abbrev pub Between : List Line → ℕ → ℕ → Type 0
Between code from to = LabelsBetween (drop from code) (drop to code)

-- the same as from a later place
pub record SameFrom (code : List Line) (from k to : ℕ) : Type 0 where
  pub forward : Between code k to → Between code from to
  pub back : Between code from to → Between code k to

pub same_begun : (code : List Line) (from to : ℕ) → SameFrom code from from to
same_begun code from to = record { forward = λ p. p; back = λ p. p }

lengths : (code : List Line) (k to : ℕ) → k < to → to ≤ length code → length (drop to code) ≤ length (drop (k + 1) code)
lengths code k to lt le = let a = length-drop to code in let b = length-drop (k + 1) code in omega (arith, a, b, lt, le)

pub same_more : (code : List Line) (from k to : ℕ) (i : Line) → k < to → to ≤ length code → i ≡ get_or code k i →
    (l : ℕ) × (i ≡ bare_flow (flow.Label l)) → SameFrom code from k to → SameFrom code from (k + 1) to
same_more code from k to i lt le e label h =
    let here : drop k code ≡ i ∷ drop (k + 1) code = drop_line code k i (omega (arith, lt, le)) e in
    record {
      forward = λ p.
          h.forward (subst (λ xs. LabelsBetween xs (drop to code)) (sym here)
          (subst (λ j. LabelsBetween (j ∷ drop (k + 1) code) (drop to code)) (sym label.1) (label_between p)));
      back = λ p. (inner (subst (λ xs. LabelsBetween xs (drop to code)) here (h.back p)) (lengths code k to lt le)).1;
    }

pub not_between : (code : List Line) (from k to : ℕ) (i : Line) → k < to → to ≤ length code → i ≡ get_or code k i →
    ((l : ℕ) × (i ≡ bare_flow (flow.Label l)) → ⊥) → SameFrom code from k to → Between code from to → ⊥
not_between code from k to i lt le e out h p =
    let here : drop k code ≡ i ∷ drop (k + 1) code = drop_line code k i (omega (arith, lt, le)) e in
    out (inner (subst (λ xs. LabelsBetween xs (drop to code)) here (h.back p)) (lengths code k to lt le)).0

pub past_between : (code : List Line) (from to : ℕ) → to < from → from ≤ length code → Between code from to → ⊥
past_between code from to lt le p =
    let a = shorter p in let b = length-drop to code in let d = length-drop from code in omega (arith, a, b, d, lt, le)

pub all_between : (code : List Line) (from to : ℕ) → SameFrom code from to to → Between code from to
all_between code from to h = h.forward none_between
