-- Claims in the table, and blocks that lie apart.
use Rattle.std.proofs.Common.{◌≡◌, ℕ, zero, suc, ◌+◌, ◌-◌, ◌%◌, ◌<◌, ◌≤◌, ◌≢◌, ◌⊎◌, inl, inr, Bool, true, false, cond, ◌||◌, List, [], ◌∷◌, length, drop, get_or, refl, ap, arith, ◌∙◌, sym}
use Rattle.std.specs.List.{list_all}
use Rattle.std.proofs.lemmas.Bool.{leb-true, le-leb, lt-leb, lt-ltb, leb-false, ltb-true, and_parts, and_from, and_left, and_right, or_cases, or_left, or_parts, or_from, cases_lt, cases_eq}
use Rattle.rv_machine.specs.Hart.{Placed}
use Rattle.rv_machine.specs.Marks.{Marks, mark_at}
use Rattle.rv_machine.specs.Placement.{are_apart, block_end, header_address, is_apart, is_in_heap, placed_at}
use Rattle.alloc_service.specs.Forward.{MarksWithin, covers, is_covered}
use Rattle.machine_laws.proofs.InHeap.{in_heap, unaligned}
use Rattle.alloc_service.proofs.Steps.{step, step_at}

-- ---- lists of placed blocks

pub step_placed :
    (bs : List Placed) (ss : List ℕ) (k : ℕ) (b : Placed) → k < length bs → length ss ≡ length bs → b ≡ get_or bs k b →
    placed_at (drop k bs) (drop k ss) ≡ record b { start = get_or ss k 0 } ∷ placed_at (drop (k + 1) bs) (drop (k + 1) ss)
step_placed bs ss k b h e i =
    let l : k < length ss = omega arith in
    ap (λ xs. placed_at xs (drop k ss)) (step bs k b h i) ∙ ap (λ ys. placed_at (b ∷ drop (k + 1) bs) ys) (step_at ss k l)

pub all_from : (p : Placed → Bool) (bs : List Placed) (ss : List ℕ) (k : ℕ) → length ss ≡ length bs → list_all p (placed_at bs ss) ≡ true → list_all p (placed_at (drop k bs) (drop k ss)) ≡ true
all_from p bs ss zero e h = h
all_from p [] ss (suc k) e h = refl
all_from p (b ∷ bs) [] (suc k) e h = absurd (omega arith)
all_from p (b ∷ bs) (s ∷ ss) (suc k) e h = all_from p bs ss k (omega arith) (and_parts (p (record b { start = s })) (list_all p (placed_at bs ss)) h).1

-- what all placed blocks have, the one of this number has
pub all_at :
    (p : Placed → Bool) (bs : List Placed) (ss : List ℕ) (k : ℕ) (b : Placed) → k < length bs → length ss ≡ length bs → b ≡ get_or bs k b →
    list_all p (placed_at bs ss) ≡ true → p (record b { start = get_or ss k 0 }) ≡ true
all_at p bs ss k b h e i t =
    let from = all_from p bs ss k e t in
    let here : list_all p (record b { start = get_or ss k 0 } ∷ placed_at (drop (k + 1) bs) (drop (k + 1) ss)) ≡ true =
    sym (ap (list_all p) (step_placed bs ss k b h e i)) ∙ from in
    (and_parts (p (record b { start = get_or ss k 0 })) (list_all p (placed_at (drop (k + 1) bs) (drop (k + 1) ss))) here).0

pub apart_from : (bs : List Placed) (ss : List ℕ) (k : ℕ) → length ss ≡ length bs → are_apart (placed_at (drop k bs) (drop k ss)) ≡ false → are_apart (placed_at bs ss) ≡ false
apart_from bs ss zero e h = h
apart_from [] ss (suc k) e h = h
apart_from (b ∷ bs) [] (suc k) e h = absurd (omega arith)
apart_from (b ∷ bs) (s ∷ ss) (suc k) e h = and_right (list_all (is_apart (record b { start = s })) (placed_at bs ss)) (are_apart (placed_at bs ss)) (apart_from bs ss k (omega arith) h)

pub uncovered_from : (bs : List Placed) (ss : List ℕ) (k a : ℕ) → length ss ≡ length bs → is_covered (placed_at bs ss) a ≡ false → is_covered (placed_at (drop k bs) (drop k ss)) a ≡ false
uncovered_from bs ss zero a e h = h
uncovered_from [] ss (suc k) a e h = refl
uncovered_from (b ∷ bs) [] (suc k) a e h = absurd (omega arith)
uncovered_from (b ∷ bs) (s ∷ ss) (suc k) a e h = uncovered_from bs ss k a (omega arith) (or_parts (covers a (record b { start = s })) (is_covered (placed_at bs ss) a) h).1

-- ---- claims

-- what the blocks cover is marked, and nothing else
pub record IsClaimed (table : Marks) (blocks : List Placed) : Type 0 where
  pub each : (a : ℕ) → a % 8 ≡ 0 → mark_at table a ≡ cond (is_covered blocks a) 1 0

covered_both : (a : ℕ) (b : Placed) → header_address b ≤ a → a < block_end b → covers a b ≡ true
covered_both a b h k = and_from _ _ (le-leb (header_address b) a h) (lt-ltb a (block_end b) k)

covered_parts : (a : ℕ) (b : Placed) → covers a b ≡ true → (header_address b ≤ a) × (a < block_end b)
covered_parts a b h = let p = and_parts _ _ h in (leb-true (header_address b) a p.0, ltb-true a (block_end b) p.1)

-- an address of a block that another one does not meet is not of that one
apart_by : (b d : Placed) (a : ℕ) → covers a b ≡ true → covers a d ≡ true → is_apart b d ≡ false
apart_by b d a h k =
    let p = covered_parts a b h in
    let q = covered_parts a d k in
    or_from _ _ (lt-leb (block_end b + 8) d.start (omega (arith, p.0, p.1, q.0, q.1))) (lt-leb (block_end d + 8) b.start (omega (arith, p.0, p.1, q.0, q.1)))

-- two blocks that no address is of
apart_of :
    (b d : Placed) → b.start % 8 ≡ 0 → d.start % 8 ≡ 0 → 8 ≤ b.start → 8 ≤ d.start →
    ((a : ℕ) → a % 8 ≡ 0 → covers a b ≡ true → covers a d ≡ false) → is_apart b d ≡ true
apart_of b d x y lb ld none = by_test (is_apart b d) refl
  where
    meets : b.start < block_end d + 8 → d.start < block_end b + 8 → ⊥
    meets h k = by_order (cases_lt b.start d.start)
      where
        both : (a : ℕ) → a % 8 ≡ 0 → covers a b ≡ true → covers a d ≡ true → ⊥
        both a e p q = let n = none a e p in cc

        by_order : (b.start < d.start) ⊎ (d.start ≤ b.start) → ⊥
        by_order (inl l) = both (d.start - 8) (omega arith) (covered_both (d.start - 8) b (omega arith) (omega arith)) (covered_both (d.start - 8) d (omega arith) (omega arith))
        by_order (inr l) = both (b.start - 8) (omega arith) (covered_both (b.start - 8) b (omega arith) (omega arith)) (covered_both (b.start - 8) d (omega arith) (omega arith))

    by_test : (t : Bool) → is_apart b d ≡ t → is_apart b d ≡ true
    by_test true e = e
    by_test false e =
        let p = or_parts _ _ e in
        absurd (meets (leb-false (block_end d + 8) b.start p.1) (leb-false (block_end b + 8) d.start p.0))

all_apart :
    (heap : ℕ) (b : Placed) (done : List Placed) → is_in_heap heap b ≡ true → list_all (is_in_heap heap) done ≡ true →
    ((a : ℕ) → a % 8 ≡ 0 → covers a b ≡ true → is_covered done a ≡ false) → list_all (is_apart b) done ≡ true
all_apart heap b [] i all none = refl
all_apart heap b (d ∷ done) i all none =
    let parts = and_parts (is_in_heap heap d) (list_all (is_in_heap heap) done) all in
    let p = in_heap heap b i in
    let q = in_heap heap d parts.0 in
    and_from (is_apart b d) (list_all (is_apart b) done)
    (apart_of b d p.aligned q.aligned (omega (arith, p.low)) (omega (arith, q.low)) (λ a e h. (or_parts (covers a d) (is_covered done a) (none a e h)).0))
    (all_apart heap b done i parts.1 (λ a e h. (or_parts (covers a d) (is_covered done a) (none a e h)).1))

abbrev bit : Bool → ℕ
bit t = cond t 1 0

uncovered : (t : Bool) → bit t ≡ 0 → t ≡ false
uncovered true e = absurd (cc)
uncovered false e = refl

covered : (t : Bool) → bit t ≢ 0 → t ≡ true
covered true e = refl
covered false e = absurd (e refl)

-- where no word of a block is claimed, it lies apart from those that are claimed
pub free_apart :
    (heap : ℕ) (t : Marks) (b : Placed) (done : List Placed) → is_in_heap heap b ≡ true → list_all (is_in_heap heap) done ≡ true → IsClaimed t done →
    ((a : ℕ) → covers a b ≡ true → mark_at t a ≡ 0) → list_all (is_apart b) done ≡ true
free_apart heap t b done i all claimed free =
    all_apart heap b done i all (λ a e h. uncovered (is_covered done a) (sym (claimed.each a e) ∙ free a h))

meets_one : (b : Placed) (done : List Placed) (a : ℕ) → covers a b ≡ true → is_covered done a ≡ true → list_all (is_apart b) done ≡ false
meets_one b [] a h k = absurd (cc)
meets_one b (d ∷ done) a h k = by_case (or_cases (covers a d) (is_covered done a) k) (meets_one b done a h)
  where
    by_case : (covers a d ≡ true) ⊎ (is_covered done a ≡ true) → (is_covered done a ≡ true → list_all (is_apart b) done ≡ false) → list_all (is_apart b) (d ∷ done) ≡ false
    by_case (inl e) later = and_left (is_apart b d) (list_all (is_apart b) done) (apart_by b d a h e)
    by_case (inr e) later = and_right (is_apart b d) (list_all (is_apart b) done) (later e)

-- where one is claimed, it does not
pub taken_meets :
    (t : Marks) (b : Placed) (done : List Placed) (a : ℕ) → IsClaimed t done → a % 8 ≡ 0 → covers a b ≡ true → mark_at t a ≢ 0 →
    list_all (is_apart b) done ≡ false
taken_meets t b done a claimed e h n = meets_one b done a h (covered (is_covered done a) (λ z. n (claimed.each a e ∙ z)))

pub claimed_more :
    (t u : Marks) (b : Placed) (done : List Placed) → IsClaimed t done → ((a : ℕ) → a % 8 ≡ 0 → covers a b ≡ true → mark_at u a ≡ 1) →
    ((a : ℕ) → covers a b ≡ false → mark_at u a ≡ mark_at t a) → IsClaimed u (b ∷ done)
claimed_more t u b done claimed inside outside = record { each = λ a e. by_case a e (covers a b) refl }
  where
    by_case : (a : ℕ) → a % 8 ≡ 0 → (c : Bool) → covers a b ≡ c → mark_at u a ≡ cond (covers a b || is_covered done a) 1 0
    by_case a e true k = inside a e k ∙ sym (ap (λ c. cond c 1 0) (or_left (covers a b) (is_covered done a) k))
    by_case a e false k = outside a k ∙ claimed.each a e ∙ sym (ap (λ c. cond (c || is_covered done a) 1 0) k)

-- what is not covered has no mark
pub claimed_within : (t : Marks) (done : List Placed) (a : ℕ) → IsClaimed t done → is_covered done a ≡ false → mark_at t a ≡ 0
claimed_within t done a claimed h = by_case (cases_eq (a % 8) 0)
  where
    by_case : (a % 8 ≡ 0) ⊎ (a % 8 ≡ 0 → ⊥) → mark_at t a ≡ 0
    by_case (inl e) = claimed.each a e ∙ ap (λ c. cond c 1 0) h
    by_case (inr e) = unaligned t a e

module _ (bs : List Placed) (ss : List ℕ) (left : ℕ) (b : Placed) (some : 0 < left) (within : left ≤ length bs) (lengths : length ss ≡ length bs) (is : b ≡ get_or bs (left - 1) b) where
  -- the block that is claimed next, and those that are claimed
  abbrev pub next : Placed
  next = record b { start = get_or ss (left - 1) 0 }

  abbrev pub done : List Placed
  done = placed_at (drop left bs) (drop left ss)

  pub next_is : placed_at (drop (left - 1) bs) (drop (left - 1) ss) ≡ next ∷ done
  next_is =
      let k : left - 1 + 1 ≡ left = omega arith in
      step_placed bs ss (left - 1) b (omega arith) lengths is ∙ ap (λ n. next ∷ placed_at (drop n bs) (drop n ss)) k

  module _ (heap : ℕ) (inside : list_all (is_in_heap heap) (placed_at bs ss) ≡ true) where
    pub next_inside : is_in_heap heap next ≡ true
    next_inside = all_at (is_in_heap heap) bs ss (left - 1) b (omega arith) lengths is inside

    pub done_inside : list_all (is_in_heap heap) done ≡ true
    done_inside = all_from (is_in_heap heap) bs ss left lengths inside

  pub failed_apart : (t : Marks) (a : ℕ) → IsClaimed t done → a % 8 ≡ 0 → covers a next ≡ true → mark_at t a ≢ 0 → are_apart (placed_at bs ss) ≡ false
  failed_apart t a claimed e h n =
      apart_from bs ss (left - 1) lengths
      (ap are_apart next_is ∙ and_left (list_all (is_apart next) done) (are_apart done) (taken_meets t next done a claimed e h n))

  pub failed_within : (t u : Marks) → IsClaimed t done → ((a : ℕ) → covers a next ≡ false → mark_at u a ≡ mark_at t a) → MarksWithin u (placed_at bs ss)
  failed_within t u claimed outside = record {
    each = λ a none.
        let from = uncovered_from bs ss (left - 1) a lengths none in
        let parts = or_parts (covers a next) (is_covered done a) (sym (ap (λ ps. is_covered ps a) next_is) ∙ from) in
        outside a parts.0 ∙ claimed_within t done a claimed parts.1;
  }
