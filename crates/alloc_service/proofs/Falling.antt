-- Blocks from the last to the first.
use Rattle.std.proofs.Common.{◌≡◌, ℕ, suc, ◌+◌, ◌-◌, ◌*◌, ◌<◌, ◌≤◌, List, [], ◌∷◌, ◌++◌, length, take, get_or, reverse, ap, arith, ◌∙◌, sym, append_assoc}
use Rattle.std.proofs.lemmas.List.{reverse-append}
use Rattle.std.proofs.Math.Seq.{take-suc}
use Rattle.rv_machine.specs.Hart.{Placed}
use Rattle.rv_machine.specs.Placement.{bytes_used, spaced}
use Rattle.machine_laws.proofs.Chain.{bytes-append}

last : (bs : List Placed) (left : ℕ) (b : Placed) → 0 < left → left ≤ length bs → b ≡ get_or bs (left - 1) b → take left bs ≡ take (left - 1) bs ++ b ∷ []
last bs left b h k e =
    let n : suc (left - 1) ≡ left = omega arith in
    sym (ap (λ j. take j bs) n) ∙ take-suc bs (left - 1) b (omega arith) ∙ ap (λ x. take (left - 1) bs ++ x ∷ []) (sym e)

pub bytes_step :
    (bs : List Placed) (left : ℕ) (b : Placed) → 0 < left → left ≤ length bs → b ≡ get_or bs (left - 1) b →
    bytes_used (take left bs) ≡ bytes_used (take (left - 1) bs) + (8 + 8 * b.words)
bytes_step bs left b h k e =
    let n : bytes_used (take (left - 1) bs) + (8 + 8 * b.words + 0) ≡ bytes_used (take (left - 1) bs) + (8 + 8 * b.words) = omega arith in
    ap bytes_used (last bs left b h k e) ∙ bytes-append (take (left - 1) bs) (b ∷ []) ∙ n

pub spaced_step :
    (gap at : ℕ) (bs : List Placed) (left : ℕ) (b : Placed) (ws vs : List ℕ) → 0 < left → left ≤ length bs → b ≡ get_or bs (left - 1) b →
    vs ≡ ws ++ (at + gap + 8) ∷ [] →
    vs ++ spaced gap (at + gap + 8 + 8 * b.words) (reverse (take (left - 1) bs)) ≡ ws ++ spaced gap at (reverse (take left bs))
spaced_step gap at bs left b ws vs h k e v =
    let turned : reverse (take left bs) ≡ b ∷ reverse (take (left - 1) bs) = ap reverse (last bs left b h k e) ∙ reverse-append (take (left - 1) bs) (b ∷ []) in
    let n : at + gap + 8 + 8 * b.words ≡ at + gap + (8 + 8 * b.words) = omega arith in
    ap (λ x. x ++ spaced gap (at + gap + 8 + 8 * b.words) (reverse (take (left - 1) bs))) v
    ∙ append_assoc ws ((at + gap + 8) ∷ []) (spaced gap (at + gap + 8 + 8 * b.words) (reverse (take (left - 1) bs)))
    ∙ ap (λ j. ws ++ (at + gap + 8) ∷ spaced gap j (reverse (take (left - 1) bs))) n
    ∙ sym (ap (λ x. ws ++ spaced gap at x) turned)
