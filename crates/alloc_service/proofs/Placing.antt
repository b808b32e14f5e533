-- What is known of the blocks when they move.
use mathlib.Core.Path.{fun_ext}
use Rattle.std.proofs.Common.{◌≡◌, ℕ, zero, suc, ◌+◌, ◌-◌, ◌*◌, ◌%◌, ◌<◌, ◌≤◌, ◌⊎◌, inl, inr, ◌||◌, not, Bool, true, false, cond, List, [], ◌∷◌, ◌++◌, length, reverse, map, take, drop, refl, ap, arith, ◌∙◌, sym, eq-eqb}
use Rattle.std.specs.Prelude.{◌==◌}
use Rattle.std.specs.List.{AllByRecursion, list_all}
use Rattle.std.proofs.lemmas.Bool.{and_parts, cases_eq, ne_eqb}
use Rattle.image_form.specs.Tables.{Tables}
use Rattle.rv_machine.specs.Relocation.{is_in_code, is_in_data, is_root_word, is_start}
use Rattle.rv_machine.specs.Hart.{Placed}
use Rattle.rv_machine.specs.Marks.{Marks}
use Rattle.rv_machine.specs.Moving.{copied, is_scanned, moved_memory, redirected, vacated, rewritten, rewritten_block, rewritten_cells}
use Rattle.rv_machine.specs.Placement.{bytes_used, header_address, is_in_heap, placed_at}
use Rattle.rv_machine.specs.Space.{IsHeapBlock, HasCells}
use Rattle.rv_machine.specs.Memory.{Region, put, memory_word, words_at}
use Rattle.alloc_service.specs.Forward.{IsForward, IsLow, IsPlaced, IsSmall, forward, forwarded, mark_or, poured, redirected_now, root_by, words_moved, words_of_blocks}
use Rattle.machine_laws.proofs.Apart.{all_of, all-append, all-reverse}
use Rattle.machine_laws.proofs.Chain.{IsYoung}
use Rattle.machine_laws.proofs.Rise.{Rise}
use Rattle.alloc_service.proofs.Words.{both_now}
use Rattle.machine_laws.proofs.InHeap.{covered_place, ends_below, in_heap, young_place}

pub kept_low : (heap : ℕ) (b : Placed) → heap ≤ 67108864 → IsHeapBlock heap b → IsLow b
kept_low heap b m k =
    let p = in_heap heap b k.inside in
    let e = ends_below heap b m k.inside in
    record { low = omega (arith, e); high = omega (arith, p.low); some = k.some }

kept_placed : (heap : ℕ) (b : Placed) → heap ≤ 67108864 → IsHeapBlock heap b → IsPlaced heap b
kept_placed heap b m k =
    let p = in_heap heap b k.inside in
    let e = ends_below heap b m k.inside in
    record {
      place = covered_place heap b b.start k.inside p.aligned (omega arith) (omega (arith, k.some));
      small = record { some = k.some; most = omega (arith, e, p.low) };
    }

young_placed : (heap : ℕ) (b : Placed) → IsYoung b → IsPlaced heap b
young_placed heap b y = record {
  place = young_place heap b.start y.aligned y.low y.high;
  small = record { some = y.some; most = omega (arith, y.most) };
}

young_low : (b : Placed) → IsYoung b → IsLow b
young_low b y = record { low = omega (arith, y.most, y.high); high = omega (arith, y.low); some = y.some }

-- ---- lists

pub all_placed :
    (heap : ℕ) (old found : List Placed) → heap ≤ 67108864 → AllByRecursion (IsHeapBlock heap) old → AllByRecursion IsYoung found →
    AllByRecursion (IsPlaced heap) (old ++ reverse found)
all_placed heap old found m x y =
    all-append (IsPlaced heap) old (reverse found) (all_of (IsHeapBlock heap) (IsPlaced heap) (λ b k. kept_placed heap b m k) old x)
    (all-reverse (IsPlaced heap) found (all_of IsYoung (IsPlaced heap) (λ b k. young_placed heap b k) found y))

pub all_low :
    (heap : ℕ) (old found : List Placed) → heap ≤ 67108864 → AllByRecursion (IsHeapBlock heap) old → AllByRecursion IsYoung found →
    AllByRecursion IsLow (old ++ reverse found)
all_low heap old found m x y =
    all-append IsLow old (reverse found) (all_of (IsHeapBlock heap) IsLow (λ b k. kept_low heap b m k) old x)
    (all-reverse IsLow found (all_of IsYoung IsLow young_low found y))

pub small_of : (heap : ℕ) (bs : List Placed) → AllByRecursion (IsPlaced heap) bs → AllByRecursion IsSmall bs
small_of heap bs all = all_of (IsPlaced heap) IsSmall (λ b k. k.small) bs all

pub cells_of_small : (bs : List Placed) → AllByRecursion IsSmall bs → AllByRecursion HasCells bs
cells_of_small bs all = all_of IsSmall HasCells (λ b k. k.some) bs all

-- ---- the table and the definition

forwarded_is :
    (heap : ℕ) (bs : List Placed) (ss : List ℕ) (w : ℕ) → length ss ≡ length bs → list_all (is_in_heap heap) (placed_at bs ss) ≡ true →
    mark_or (forwarded bs ss w) w ≡ rewritten bs (placed_at bs ss) w
forwarded_is heap [] ss w e h = refl
forwarded_is heap (b ∷ bs) [] w e h = absurd (omega arith)
forwarded_is heap (b ∷ bs) (s ∷ ss) w e h =
    let p = and_parts (is_in_heap heap (record b { start = s })) (list_all (is_in_heap heap) (placed_at bs ss)) h in
    let low = (in_heap heap (record b { start = s }) p.0).low in
    by_test (w == b.start) s (omega (arith, low)) (forwarded_is heap bs ss w (omega arith) p.1)
  where
    by_test : (t : Bool) (s : ℕ) → 0 < s → mark_or (forwarded bs ss w) w ≡ rewritten bs (placed_at bs ss) w → mark_or (cond t s (forwarded bs ss w)) w ≡ cond t s (rewritten bs (placed_at bs ss) w)
    by_test true zero l later = absurd (omega arith)
    by_test true (suc s) l later = refl
    by_test false s l later = later

-- what the table makes of a word is what the definition makes of it
pub forward_is :
    (heap : ℕ) (t : Marks) (bs : List Placed) (ss : List ℕ) → IsForward t bs ss → length ss ≡ length bs → list_all (is_in_heap heap) (placed_at bs ss) ≡ true →
    (w : ℕ) → forward t w ≡ rewritten bs (placed_at bs ss) w
unfolding forward
forward_is heap t bs ss f e h w = ap (λ m. mark_or m w) (f.each w) ∙ forwarded_is heap bs ss w e h

-- functions that agree everywhere are one
pub same_function : (f g : ℕ → ℕ) → ((w : ℕ) → f w ≡ g w) → f ≡ g
same_function f g h = fun_ext h

-- ---- words

pub words_bound : (bs : List Placed) → 8 * words_of_blocks bs ≡ bytes_used bs
words_bound [] = refl
words_bound (b ∷ bs) = omega (arith, words_bound bs)

pub new_words : (bs : List Placed) (ss : List ℕ) → words_of_blocks (placed_at bs ss) ≡ words_of_blocks bs
new_words [] ss = refl
new_words (b ∷ bs) [] = refl
new_words (b ∷ bs) (s ∷ ss) = ap (λ n. suc b.words + n) (new_words bs ss)

length-words_at : (m : List Region) (a n : ℕ) → length (words_at m a n) ≡ n
length-words_at m a zero = refl
length-words_at m a (suc n) = ap (λ k. suc k) (length-words_at m (a + 8) n)

length-map : (f : ℕ → ℕ) (xs : List ℕ) → length (map f xs) ≡ length xs
length-map f [] = refl
length-map f (x ∷ xs) = ap (λ k. suc k) (length-map f xs)

length-cells : (t : Bool) (f : ℕ → ℕ) (xs : List ℕ) → length (rewritten_cells t f xs) ≡ length xs
length-cells true f xs = length-map f xs
length-cells false f xs = refl

pub length-block : (f : ℕ → ℕ) (m : List Region) (b : Placed) → length (rewritten_block f m b) ≡ suc b.words
length-block f m b = ap (λ k. suc k) (length-cells (is_scanned (memory_word m (header_address b))) f (words_at m b.start b.words) ∙ length-words_at m b.start b.words)

length-both : (xs ys : List ℕ) → length (xs ++ ys) ≡ length xs + length ys
length-both [] ys = omega arith
length-both (x ∷ xs) ys = omega (arith, length-both xs ys)

pub length-moved : (f : ℕ → ℕ) (m : List Region) (bs : List Placed) → length (words_moved f m bs) ≡ words_of_blocks bs
length-moved f m [] = refl
length-moved f m (b ∷ bs) = length-both (rewritten_block f m b) (words_moved f m bs) ∙ omega (arith, length-block f m b, length-moved f m bs)

take-first : (xs ys : List ℕ) (n : ℕ) → length xs ≡ n → take n (xs ++ ys) ≡ xs
take-first [] ys zero e = refl
take-first [] ys (suc n) e = absurd (omega arith)
take-first (x ∷ xs) ys zero e = absurd (omega arith)
take-first (x ∷ xs) ys (suc n) e = ap (λ zs. x ∷ zs) (take-first xs ys n (omega arith))

drop-first : (xs ys : List ℕ) (n : ℕ) → length xs ≡ n → drop n (xs ++ ys) ≡ ys
drop-first [] ys zero e = refl
drop-first [] ys (suc n) e = absurd (omega arith)
drop-first (x ∷ xs) ys zero e = absurd (omega arith)
drop-first (x ∷ xs) ys (suc n) e = drop-first xs ys n (omega arith)

-- what is gathered from the old places and poured to the new ones is copied
pub copied_is :
    (f : ℕ → ℕ) (old : List Region) (bs : List Placed) (ss : List ℕ) (m : List Region) → length ss ≡ length bs →
    poured m (words_moved f old bs) (placed_at bs ss) ≡ copied f old m bs (placed_at bs ss)
copied_is f old [] ss m e = refl
copied_is f old (b ∷ bs) [] m e = absurd (omega arith)
copied_is f old (b ∷ bs) (s ∷ ss) m e =
    let n = length-block f old b in
    ap (λ ws. poured (put m (s - 8) ws) (drop (suc b.words) (rewritten_block f old b ++ words_moved f old bs)) (placed_at bs ss)) (take-first (rewritten_block f old b) (words_moved f old bs) (suc b.words) n)
    ∙ ap (λ ws. poured (put m (s - 8) (rewritten_block f old b)) ws (placed_at bs ss)) (drop-first (rewritten_block f old b) (words_moved f old bs) (suc b.words) n)
    ∙ copied_is f old bs ss (put m (s - 8) (rewritten_block f old b)) (omega arith)

-- the memory as the code leaves it is the one of the definition
pub moved_is :
    (g f : ℕ → ℕ) (bs : List Placed) (ss : List ℕ) (m0 m1 m2 m3 m4 : List Region) (slots roots words : List ℕ) (from middle top : ℕ) →
    g ≡ f → f ≡ rewritten bs (placed_at bs ss) → m1 ≡ redirected_now g m0 slots → m2 ≡ redirected_now g m1 roots → m3 ≡ vacated m2 bs →
    m4 ≡ poured m3 words (placed_at bs ss) → words ≡ words_moved g m0 bs → Rise middle top slots → Rise from middle roots → length ss ≡ length bs →
    m4 ≡ moved_memory bs (placed_at bs ss) m0 (slots ++ roots)
unfolding moved_memory
moved_is g f bs ss m0 m1 m2 m3 m4 slots roots words from middle top same is one two three four gathered r s lengths =
    four ∙ ap (λ ws. poured m3 ws (placed_at bs ss)) gathered ∙ copied_is g m0 bs ss m3 lengths
    ∙ ap (λ m. copied g m0 m bs (placed_at bs ss))
    (three ∙ ap (λ m. vacated m bs) (two ∙ ap (λ m. redirected_now g m roots) one ∙ sym (both_now g m0 slots roots from middle top r s)))
    ∙ ap (λ h. copied h m0 (vacated (redirected h m0 m0 (slots ++ roots)) bs) bs (placed_at bs ss)) (same ∙ is)

-- ---- roots

marked_start : (heap : ℕ) (bs : List Placed) (ss : List ℕ) (w : ℕ) → length ss ≡ length bs → list_all (is_in_heap heap) (placed_at bs ss) ≡ true → not (forwarded bs ss w == 0) ≡ is_start bs w
marked_start heap [] ss w e h = refl
marked_start heap (b ∷ bs) [] w e h = absurd (omega arith)
marked_start heap (b ∷ bs) (s ∷ ss) w e h =
    let p = and_parts (is_in_heap heap (record b { start = s })) (list_all (is_in_heap heap) (placed_at bs ss)) h in
    let low = (in_heap heap (record b { start = s }) p.0).low in
    by_case (cases_eq w b.start) (omega (arith, low)) (marked_start heap bs ss w (omega arith) p.1)
  where
    by_case : (w ≡ b.start) ⊎ (w ≡ b.start → ⊥) → 0 < s → not (forwarded bs ss w == 0) ≡ is_start bs w → not (cond (w == b.start) s (forwarded bs ss w) == 0) ≡ ((b.start == w) || is_start bs w)
    by_case (inl k) l later =
        ap (λ t. not (cond t s (forwarded bs ss w) == 0)) (eq-eqb w b.start k) ∙ ap not (ne_eqb s 0 (λ z. omega arith))
        ∙ sym (ap (λ t. t || is_start bs w) (eq-eqb b.start w (sym k)))
    by_case (inr k) l later =
        ap (λ t. not (cond t s (forwarded bs ss w) == 0)) (ne_eqb w b.start k) ∙ later
        ∙ sym (ap (λ t. t || is_start bs w) (ne_eqb b.start w (λ z. k (sym z))))

pub roots_are :
    (heap : ℕ) (image : Tables) (t : Marks) (bs : List Placed) (ss : List ℕ) → IsForward t bs ss → length ss ≡ length bs → list_all (is_in_heap heap) (placed_at bs ss) ≡ true →
    root_by image t ≡ is_root_word image bs
roots_are heap image t bs ss f e h = fun_ext (λ w. ap (λ m. (w % 2 == 1) || m || is_in_data image w || is_in_code image w) (ap (λ m. not (m == 0)) (f.each w) ∙ marked_start heap bs ss w e h))
