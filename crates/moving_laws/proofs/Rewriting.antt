-- Rewriting takes the word of a value to its word.
use Rattle.std.proofs.Common.{◌≡◌, ◌≢◌, ℕ, zero, suc, ◌+◌, ◌%◌, ◌^◌, ◌<◌, ◌≤◌, ◌⊎◌, inl, Bool, true, false, cond, ◌==◌, List, [], ◌∷◌, length, refl, ap, arith, ◌∙◌, sym, ⊎_elim, mod-eq_of_lt}
use Rattle.std.specs.List.{AllByRecursion}
use Rattle.std.proofs.lemmas.Bool.{eq-eqb, ne_eqb, cond-true, cond-false}
use Rattle.bs_words.specs.Word.{add_word}
use Rattle.bs_words.specs.declared.values.Value.{Value}
use Rattle.bs_words.specs.declared.values.Value.TheVariants.{Word, Block, Function}
use Rattle.image_form.specs.Tables.{Tables}
use Rattle.rv_machine.specs.Hart.{Placed}
use Rattle.rv_machine.specs.Moving.{rewritten}
use Rattle.moving_laws.specs.Heap.{IsInHeap, AreApart, AllApart, SameSizes}
use Rattle.moving_laws.specs.Values.{start_of, value_word, function_at, IsVal, IsStill, HasFunctions}

-- a word that is no block's start
abbrev pub NoStart : ℕ → List Placed → Type 0
NoStart w bs = AllByRecursion (λ (b : Placed). w ≢ b.start) bs

pub stays : (os ns : List Placed) (w : ℕ) → NoStart w os → rewritten os ns w ≡ w
stays [] ns w none = refl
stays (o ∷ os) [] w none = refl
stays (o ∷ os) (n ∷ ns) w none = cond-false (w == o.start) _ _ (ne_eqb w o.start none.0) ∙ stays os ns w none.1

pub start_inside : (bs : List Placed) (k : ℕ) → AllByRecursion IsInHeap bs → k < length bs → (start_of bs k % 8 ≡ 0) × (0x30000008 ≤ start_of bs k)
    × (start_of bs k ≤ 0x38010000)
start_inside [] k a l = absurd (omega (arith, l))
start_inside (b ∷ bs) zero a l = let h = a.0.high in (a.0.aligned, a.0.low, omega (arith, h))
start_inside (b ∷ bs) (suc k) a l = start_inside bs k a.1 (omega (arith, l))

-- the starts of blocks that lie apart differ
other_start : (b : Placed) (bs : List Placed) (k : ℕ) → AllByRecursion (AreApart b) bs → k < length bs → start_of bs k ≢ b.start
other_start b [] k far l = absurd (omega (arith, l))
other_start b (c ∷ cs) zero far l = λ e. ⊎_elim (λ d. omega (arith, d, e)) (λ d. omega (arith, d, e)) far.0
other_start b (c ∷ cs) (suc k) far l = other_start b cs k far.1 (omega (arith, l))

pub moves : (os ns : List Placed) (k : ℕ) → SameSizes os ns → AllApart os → k < length os → rewritten os ns (start_of os k) ≡ start_of ns k
moves [] ns k s apart l = absurd (omega (arith, l))
moves (o ∷ os) [] k s apart l = absurd s
moves (o ∷ os) (n ∷ ns) zero s apart l = cond-true (o.start == o.start) _ _ (eq-eqb o.start o.start refl)
moves (o ∷ os) (n ∷ ns) (suc k) s apart l =
    cond-false (start_of os k == o.start) _ _ (ne_eqb (start_of os k) o.start (other_start o os k apart.0 (omega (arith, l))))
    ∙ moves os ns k s.1 apart.1 (omega (arith, l))

pub odd_no_start : (w : ℕ) (bs : List Placed) → w % 2 ≡ 1 → AllByRecursion IsInHeap bs → NoStart w bs
odd_no_start w [] odd h = tt
odd_no_start w (b ∷ bs) odd h = let a = h.0.aligned in (λ e. omega (arith, odd, e, a), odd_no_start w bs odd h.1)

pub far_no_start : (w : ℕ) (bs : List Placed) → (w < 0x30000008) ⊎ (0x38010000 < w) → AllByRecursion IsInHeap bs → NoStart w bs
far_no_start w [] out h = tt
far_no_start w (b ∷ bs) out h =
    let lo = h.0.low in
    let hi = h.0.high in
    (λ e. ⊎_elim (λ l. omega (arith, l, e, lo)) (λ l. omega (arith, l, e, hi)) out, far_no_start w bs out h.1)

pub at_start : (s o : ℕ) → o ≡ 0 → s < 2 ^ 64 → add_word s o ≡ s
unfolding add_word
at_start s o e l = let x : s + o ≡ s = omega (arith, e) in ap (λ n. n % 2 ^ 64) x ∙ mod-eq_of_lt l

pub same_length : (os ns : List Placed) → SameSizes os ns → length ns ≡ length os
same_length [] [] s = refl
same_length [] (n ∷ ns) s = absurd s
same_length (o ∷ os) [] s = absurd s
same_length (o ∷ os) (n ∷ ns) s = ap suc (same_length os ns s.1)

-- a value that fits val moves with its block
pub value_moves :
    (image : Tables) (os ns : List Placed) (v : Value) → HasFunctions image → SameSizes os ns → AllByRecursion IsInHeap os → AllApart os →
    AllByRecursion IsInHeap ns →
    IsVal image (length os) v → rewritten os ns (value_word image os v) ≡ value_word image ns v
value_moves image os ns (Word w) low s h apart hn fit =
    let d = low.tables.bytes.short in
    ⊎_elim (λ odd. stays os ns w (odd_no_start w os odd h)) (λ l. let up = l.1 in stays os ns w (far_no_start w os (inl (omega (arith, up, d))) h)) fit
value_moves image os ns (Block k o) low s h apart hn fit =
    let n = same_length os ns s in
    let before = start_inside os k h fit.1 in
    let after = start_inside ns k hn (omega (arith, n, fit.1)) in
    ap (rewritten os ns) (at_start (start_of os k) o fit.0 (omega (arith, before)))
    ∙ moves os ns k s apart fit.1
    ∙ sym (at_start (start_of ns k) o fit.0 (omega (arith, after)))
value_moves image os ns (Function f) low s h apart hn fit =
    let c = low.tables.code.short in
    let inside = low.inside f fit in
    stays os ns (function_at image.funcs f) (far_no_start (function_at image.funcs f) os (inl (omega (arith, inside, c))) h)

-- a value that is no pointer has one word under every placement
pub still_word : (image : Tables) (os ns : List Placed) (v : Value) → IsStill v → value_word image os v ≡ value_word image ns v
still_word image os ns (Word w) fit = refl
still_word image os ns (Block k o) fit = absurd fit
still_word image os ns (Function f) fit = refl

-- what is rewritten stays a word
pub rewritten_below : (os ns : List Placed) (w : ℕ) → AllByRecursion IsInHeap ns → w < 2 ^ 64 → rewritten os ns w < 2 ^ 64
rewritten_below [] ns w h l = l
rewritten_below (o ∷ os) [] w h l = l
rewritten_below (o ∷ os) (n ∷ ns) w h l = by_test (w == o.start) (rewritten_below os ns w h.1 l) where
  by_test : (t : Bool) → rewritten os ns w < 2 ^ 64 → cond t n.start (rewritten os ns w) < 2 ^ 64
  by_test true later = let hi = h.0.high in omega (arith, hi)
  by_test false later = later
