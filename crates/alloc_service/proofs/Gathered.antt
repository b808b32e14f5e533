-- Words that are gathered, one after the other.
use Rattle.std.proofs.Common.{◌≡◌, ℕ, zero, suc, ◌+◌, ◌-◌, ◌<◌, Bool, true, false, cond, List, [], ◌∷◌, ◌++◌, map, length, drop, get_or, ap, arith, ◌∙◌, sym, append_assoc}
use Rattle.rv_machine.specs.Hart.{Placed}
use Rattle.rv_machine.specs.Memory.{Region, memory_word, words_at}
use Rattle.rv_machine.specs.Moving.{rewritten_block, rewritten_cells}
use Rattle.alloc_service.specs.Forward.{words_moved}
use Rattle.alloc_service.proofs.Steps.{step}

-- a push with room
pub pushed : {X : Type 0} (b : Bool) (xs ys : List X) (x : X) → ys ≡ cond b (xs ++ x ∷ []) xs → b ≡ true → ys ≡ xs ++ x ∷ []
pushed true xs ys x e h = e
pushed false xs ys x e h = absurd (cc)

pub pushed_len : (b : Bool) (m n : ℕ) → m ≡ cond b (n + 1) n → b ≡ true → m ≡ n + 1
pushed_len true m n e h = e
pushed_len false m n e h = absurd (cc)

pub one_cell :
    (scanned : Bool) (f : ℕ → ℕ) (m : List Region) (at left : ℕ) (ws vs : List ℕ) → 0 < left →
    vs ≡ ws ++ cond scanned (f (memory_word m at)) (memory_word m at) ∷ [] →
    vs ++ rewritten_cells scanned f (words_at m (at + 8) (left - 1)) ≡ ws ++ rewritten_cells scanned f (words_at m at left)
one_cell scanned f m at zero ws vs h e = absurd (omega arith)
one_cell true f m at (suc n) ws vs h e =
    let k : suc n - 1 ≡ n = omega arith in
    ap (λ j. vs ++ map f (words_at m (at + 8) j)) k ∙ ap (λ x. x ++ map f (words_at m (at + 8) n)) e
    ∙ append_assoc ws (f (memory_word m at) ∷ []) (map f (words_at m (at + 8) n))
one_cell false f m at (suc n) ws vs h e =
    let k : suc n - 1 ≡ n = omega arith in
    ap (λ j. vs ++ words_at m (at + 8) j) k ∙ ap (λ x. x ++ words_at m (at + 8) n) e
    ∙ append_assoc ws (memory_word m at ∷ []) (words_at m (at + 8) n)

pub one_block :
    (f : ℕ → ℕ) (m : List Region) (bs : List Placed) (i : ℕ) (b : Placed) (ws vs : List ℕ) → i < length bs → b ≡ get_or bs i b →
    vs ≡ ws ++ rewritten_block f m b → vs ++ words_moved f m (drop (i + 1) bs) ≡ ws ++ words_moved f m (drop i bs)
one_block f m bs i b ws vs h e v =
    ap (λ x. x ++ words_moved f m (drop (i + 1) bs)) v ∙ append_assoc ws (rewritten_block f m b) (words_moved f m (drop (i + 1) bs))
    ∙ sym (ap (λ x. ws ++ words_moved f m x) (step bs i b h e))
