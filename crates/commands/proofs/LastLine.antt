-- Where the last line of a text begins.
use Rattle.std.proofs.Common.{◌≡◌, ◌≢◌, ◌⊎◌, inl, inr, ℕ, zero, suc, ◌+◌, ◌-◌, ◌<◌, ◌≤◌, List, [], ◌∷◌, ◌++◌, length, get_or, take, drop, refl, sym, ap, ◌∙◌, subst, arith, length-append, length-drop}
use Rattle.std.proofs.lemmas.List.{take_more, take-append-drop, drop-append-le, get_or-drop, get_or_append_left}
use Rattle.std.proofs.lemmas.List.Elements.{All-from_get_or}
use Rattle.commands.specs.Soak.{BeginsLine, IsLastLine}

-- There is no line feed from here on but the last of the text.
pub record IsWithinLine (text : List ℕ) (start : ℕ) : Type 0 where
  pub within : start < length text
  pub none : (k : ℕ) → start ≤ k → k + 1 < length text → get_or text k 0 ≢ 10

begins_at : (text : List ℕ) (start : ℕ) → start < length text → (start ≡ 0) ⊎ (get_or text (start - 1) 0 ≡ 10) → BeginsLine (take start text)
begins_at text zero h b = inl refl
begins_at text (suc n) h (inl e) = absurd (omega arith)
begins_at text (suc n) h (inr e) =
    let same : suc n - 1 ≡ n = omega arith in
    let here : get_or text n 0 ≡ 10 = ap (λ i. get_or text i 0) (sym same) ∙ e in
    let more : n + 1 ≡ suc n = omega arith in
    inr (take n text, ap (λ i. take i text) (sym more) ∙ take_more text n 0 (omega arith) ∙ ap (λ b. take n text ++ b ∷ []) here)

pub last_line_at : (text : List ℕ) (start : ℕ) (words : List ℕ) → text ≡ words ++ 10 ∷ [] → IsWithinLine text start
    → (start ≡ 0) ⊎ (get_or text (start - 1) 0 ≡ 10) → IsLastLine text (drop start text)
last_line_at text start words is line b =
    let long : length text ≡ length words + 1 = ap length is ∙ length-append words (10 ∷ []) in
    let short : start ≤ length words = omega (arith, line.within) in
    record {
      front = take start text;
      words = drop start words;
      whole = sym (take-append-drop start text);
      begins = begins_at text start line.within b;
      ended = ap (drop start) is ∙ drop-append-le start words (10 ∷ []) short;
      one = All-from_get_or (λ b. b ≢ 10) (drop start words) 0 (λ i h.
          let inside : start + i < length words = omega (arith, length-drop start words) in
          let same : get_or text (start + i) 0 ≡ get_or (drop start words) i 0 =
          ap (λ t. get_or t (start + i) 0) is ∙ get_or_append_left words (10 ∷ []) 0 (start + i) inside ∙ sym (get_or-drop start words i 0) in
          subst (λ b. b ≢ 10) same (line.none (start + i) (omega arith) (omega (arith, long, inside))));
    }
