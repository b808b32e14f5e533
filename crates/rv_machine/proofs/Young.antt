-- The serials of blocks, as a walk along the table, or over young blocks from the lowest, finds them.
use Rattle.std.proofs.Common.{◌≡◌, ℕ, zero, suc, ◌+◌, ◌-◌, ◌*◌, ◌<◌, ◌≤◌, Bool, true, false, cond, ◌&&◌, ◌==◌, nat_le, List, [], ◌∷◌, ◌++◌, reverse, length, drop, get_or, Option, Some, None, option_map, refl, ap, arith, ◌∙◌, sym, append_assoc, append-nil, eq-eqb}
use Rattle.std.specs.Prelude.{IfSome}
use Rattle.std.specs.Option.{option_and_then}
use Rattle.std.proofs.Math.Seq.{drop-cons}
use Rattle.std.proofs.lemmas.Bool.{ne_eqb}
use Rattle.std.proofs.lemmas.List.{reverse-append}
use Rattle.rv_machine.specs.Hart.{Placed}
use Rattle.rv_machine.specs.Memory.{Region, read}
use Rattle.rv_machine.specs.Observation.{young_top, cells_of_header, block_then, blocks_from, or_none, serial_from, passed}

-- ---- serials in lists

later_by : (k : ℕ) (t : Bool) (ss s : Option ℕ) → ss ≡ option_map (λ n. suc n) s
    → cond t (Some (suc k)) ss ≡ option_map (λ n. suc n) (cond t (Some k) s)
later_by k true ss s h = refl
later_by k false ss s h = h

pub later : (k : ℕ) (bs : List Placed) (a : ℕ) → serial_from (suc k) bs a ≡ option_map (λ n. suc n) (serial_from k bs a)
later k [] a = refl
later k (b ∷ bs) a = later_by k (b.start == a) (serial_from (suc (suc k)) bs a) (serial_from (suc k) bs a) (later (suc k) bs a)

add_suc : (n : ℕ) (o : Option ℕ) → option_map (λ s. suc s) (option_map (λ s. n + s) o) ≡ option_map (λ s. suc n + s) o
add_suc n None = refl
add_suc n (Some s) = let e : suc (n + s) ≡ suc n + s = omega arith in ap Some e

add_zero : (o : Option ℕ) → o ≡ option_map (λ s. 0 + s) o
add_zero None = refl
add_zero (Some s) = let e : s ≡ 0 + s = omega arith in ap Some e

pub counted_from : (n : ℕ) (bs : List Placed) (a : ℕ) → serial_from n bs a ≡ option_map (λ s. n + s) (serial_from 0 bs a)
counted_from zero bs a = add_zero (serial_from 0 bs a)
counted_from (suc n) bs a = later n bs a ∙ ap (option_map (λ s. suc s)) (counted_from n bs a) ∙ add_suc n (serial_from 0 bs a)

first_by : (k s : ℕ) (t : Bool) (u v : Option ℕ) → (u ≡ Some s → v ≡ Some s) → cond t (Some k) u ≡ Some s → cond t (Some k) v ≡ Some s
first_by k s true u v h e = e
first_by k s false u v h e = h e

-- a serial of the first list is one of both
pub in_first : (k s : ℕ) (bs cs : List Placed) (a : ℕ) → serial_from k bs a ≡ Some s → serial_from k (bs ++ cs) a ≡ Some s
in_first k s [] cs a e = absurd (cc)
in_first k s (b ∷ bs) cs a e = first_by k s (b.start == a) (serial_from (suc k) bs a) (serial_from (suc k) (bs ++ cs) a) (in_first (suc k) s bs cs a) e

second_by : (k : ℕ) (t : Bool) (u v w : Option ℕ) → (u ≡ None → v ≡ w) → cond t (Some k) u ≡ None → cond t (Some k) v ≡ w
second_by k true u v w h e = absurd (cc)
second_by k false u v w h e = h e

-- with no serial in the first, it is one of the second
pub in_second : (k : ℕ) (bs cs : List Placed) (a : ℕ) → serial_from k bs a ≡ None → serial_from k (bs ++ cs) a ≡ serial_from (k + length bs) cs a
in_second k [] cs a e = let n : k ≡ k + 0 = omega arith in ap (λ m. serial_from m cs a) n
in_second k (b ∷ bs) cs a e =
    let n : suc k + length bs ≡ k + suc (length bs) = omega arith in
    second_by k (b.start == a) (serial_from (suc k) bs a) (serial_from (suc k) (bs ++ cs) a) (serial_from (k + suc (length bs)) cs a)
    (λ h. in_second (suc k) bs cs a h ∙ ap (λ m. serial_from m cs a) n) e

at : (bs : List Placed) (i : ℕ) (b : Placed) → i < length bs → b ≡ get_or bs i b → drop i bs ≡ b ∷ drop (suc i) bs
at bs i b h e = drop-cons bs i b h ∙ ap (λ y. y ∷ drop (suc i) bs) (sym e)

pub serial_here : (bs : List Placed) (i : ℕ) (b : Placed) (a : ℕ) → i < length bs → b ≡ get_or bs i b → b.start ≡ a → serial_from i (drop i bs) a ≡ Some i
serial_here bs i b a h e s =
    ap (λ cs. serial_from i cs a) (at bs i b h e) ∙ ap (λ t. cond t (Some i) (serial_from (suc i) (drop (suc i) bs) a)) (eq-eqb b.start a s)

pub serial_later : (bs : List Placed) (i : ℕ) (b : Placed) (a : ℕ) → i < length bs → b ≡ get_or bs i b → (b.start ≡ a → ⊥)
    → serial_from i (drop i bs) a ≡ serial_from (i + 1) (drop (i + 1) bs) a
serial_later bs i b a h e s =
    let n : suc i ≡ i + 1 = omega arith in
    ap (λ cs. serial_from i cs a) (at bs i b h e) ∙ ap (λ t. cond t (Some i) (serial_from (suc i) (drop (suc i) bs) a)) (ne_eqb b.start a s)
    ∙ ap (λ m. serial_from m (drop m bs) a) n

pub no_serial : (bs : List Placed) (i k : ℕ) (a : ℕ) → length bs ≤ i → serial_from k (drop i bs) a ≡ None
no_serial [] zero k a h = refl
no_serial [] (suc i) k a h = refl
no_serial (b ∷ bs) zero k a h = absurd (omega arith)
no_serial (b ∷ bs) (suc i) k a h = no_serial bs i k a (omega arith)

-- ---- what a walk finds

-- in blocks above those that were passed
abbrev pub found_above : ℕ → Option ℕ → List Placed → Option ℕ
found_above address found [] = found
found_above address found (b ∷ bs) = found_above address (passed address found b.start) bs

abbrev pub found_in : ℕ → Option ℕ → Option (List Placed) → Option ℕ
found_in address found None = None
found_in address found (Some bs) = found_above address found bs

pub one_more : (address : ℕ) (found : Option ℕ) (b : Placed) (rest : Option (List Placed))
    → found_in address found (option_map (λ bs. b ∷ bs) rest) ≡ found_in address (passed address found b.start) rest
one_more address found b None = refl
one_more address found b (Some bs) = refl

above : (address : ℕ) (before : List Placed) (bs : List Placed)
    → found_above address (serial_from 0 (reverse before) address) bs ≡ serial_from 0 (reverse (before ++ bs)) address
above address before [] = ap (λ bs. serial_from 0 (reverse bs) address) (sym (append-nil before))
above address before (b ∷ bs) =
    let turned : reverse (before ++ b ∷ []) ≡ b ∷ reverse before = reverse-append before (b ∷ []) in
    let same : passed address (serial_from 0 (reverse before) address) b.start ≡ serial_from 0 (reverse (before ++ b ∷ [])) address =
    ap (λ (o : Option ℕ). cond (b.start == address) (Some 0) o) (sym (later 0 (reverse before) address))
    ∙ ap (λ bs. serial_from 0 bs address) (sym turned) in
    ap (λ o. found_above address o bs) same
    ∙ above address (before ++ b ∷ []) bs
    ∙ ap (λ cs. serial_from 0 (reverse cs) address) (append_assoc before (b ∷ []) bs)

pub found_all : (address : ℕ) (blocks : Option (List Placed)) → found_in address None blocks ≡ serial_from 0 (reverse (or_none blocks)) address
found_all address None = refl
found_all address (Some bs) = above address [] bs

-- ---- one block of a walk

pub at_top : (most : ℕ) (memory : List Region) (at : ℕ) → 0 < most → at ≡ young_top → blocks_from most memory at ≡ Some []
at_top zero memory at h e = absurd (omega arith)
at_top (suc most) memory at h e =
    ap (λ t. cond t (Some []) (option_and_then (λ header. block_then (cells_of_header header) at (blocks_from most memory (at + 8 + 8 * cells_of_header header))) (read memory at 8)))
    (eq-eqb at young_top e)

-- what follows a header
abbrev pub headed : ℕ → List Region → ℕ → ℕ → Option (List Placed)
headed most memory at header = block_then (cells_of_header header) at (blocks_from most memory (at + 8 + 8 * cells_of_header header))

below_top : (most : ℕ) (memory : List Region) (at : ℕ) → 0 < most → (at ≡ young_top → ⊥)
    → blocks_from most memory at ≡ option_and_then (headed (most - 1) memory at) (read memory at 8)
below_top zero memory at h e = absurd (omega arith)
below_top (suc most) memory at h e =
    let n : most ≡ suc most - 1 = omega arith in
    ap (λ t. cond t (Some []) (option_and_then (headed most memory at) (read memory at 8))) (ne_eqb at young_top e)
    ∙ ap (λ m. option_and_then (headed m memory at) (read memory at 8)) n

pub no_header : (most : ℕ) (memory : List Region) (at : ℕ) → 0 < most → (at ≡ young_top → ⊥) → read memory at 8 ≡ None
    → blocks_from most memory at ≡ None
no_header most memory at h e r = below_top most memory at h e ∙ ap (option_and_then (headed (most - 1) memory at)) r

pub not_whole : (most : ℕ) (memory : List Region) (at header : ℕ) → 0 < most → (at ≡ young_top → ⊥) → read memory at 8 ≡ Some header
    → (nat_le 1 (cells_of_header header) && nat_le (cells_of_header header) 256) ≡ false → blocks_from most memory at ≡ None
not_whole most memory at header h e r t =
    below_top most memory at h e ∙ ap (option_and_then (headed (most - 1) memory at)) r
    ∙ ap (λ b. cond b (option_map (λ bs. record { start = at + 8; words = cells_of_header header } ∷ bs) (blocks_from (most - 1) memory (at + 8 + 8 * cells_of_header header))) None) t

pub one_block : (most : ℕ) (memory : List Region) (at header : ℕ) → 0 < most → (at ≡ young_top → ⊥) → read memory at 8 ≡ Some header
    → (nat_le 1 (cells_of_header header) && nat_le (cells_of_header header) 256) ≡ true
    → blocks_from most memory at ≡ option_map (λ bs. record { start = at + 8; words = cells_of_header header } ∷ bs) (blocks_from (most - 1) memory (at + 8 + 8 * cells_of_header header))
one_block most memory at header h e r t =
    below_top most memory at h e ∙ ap (option_and_then (headed (most - 1) memory at)) r
    ∙ ap (λ b. cond b (option_map (λ bs. record { start = at + 8; words = cells_of_header header } ∷ bs) (blocks_from (most - 1) memory (at + 8 + 8 * cells_of_header header))) None) t

pub whole_bounds : (words : ℕ) → (nat_le 1 words && nat_le words 256) ≡ true → (1 ≤ words) × (words ≤ 256)
whole_bounds words h = (grind arith, grind arith)

passed_by : (t : Bool) (found : Option ℕ) (most : ℕ) → 0 < most → most ≤ 4097 → IfSome found (λ s. s + most ≤ 4097)
    → IfSome (cond t (Some 0) (option_map (λ s. suc s) found)) (λ s. s + (most - 1) ≤ 4097)
passed_by true found most p h f = omega arith
passed_by false None most p h f = tt
passed_by false (Some s) most p h f = omega arith

-- a serial stays below what the walk may still pass
pub passed_below : (address : ℕ) (found : Option ℕ) (start most : ℕ) → 0 < most → most ≤ 4097 → IfSome found (λ s. s + most ≤ 4097)
    → IfSome (passed address found start) (λ s. s + (most - 1) ≤ 4097)
passed_below address found start most p h f = passed_by (start == address) found most p h f

-- the serial of all blocks, by that of the table and that of the young ones
pub in_table : (s : ℕ) (bs table young : List Placed) (a : ℕ) → bs ≡ table → Some s ≡ serial_from 0 bs a → Some s ≡ serial_from 0 (table ++ young) a
in_table s bs table young a e h = sym (in_first 0 s table young a (sym (h ∙ ap (λ cs. serial_from 0 cs a) e)))

pub among_young : (bs table young : List Placed) (a : ℕ) (o : Option ℕ) → bs ≡ table → None ≡ serial_from 0 bs a → o ≡ serial_from 0 young a
    → option_map (λ s. length table + s) o ≡ serial_from 0 (table ++ young) a
among_young bs table young a o e h k =
    let n : length table ≡ 0 + length table = omega arith in
    sym (in_second 0 table young a (sym (h ∙ ap (λ cs. serial_from 0 cs a) e)) ∙ counted_from (0 + length table) young a
    ∙ ap (λ m. option_map (λ s. m + s) (serial_from 0 young a)) (sym n) ∙ ap (option_map (λ s. length table + s)) (sym k))
