-- What the table of sights shows.
use Rattle.std.proofs.Common.{◌≡◌, ℕ, zero, suc, ◌+◌, ◌<◌, Bool, true, false, cond, ◌⊎◌, inl, inr, ⊎_elim, List, [], ◌∷◌, map, length, replicate, refl, sym, ap, ◌∙◌, subst, arith}
use Rattle.std.proofs.lemmas.Bool.{eq-eqb, eqb-true, cases_Bool}
use Rattle.std.specs.List.{Contains}
use Rattle.std.specs.Prelude.{nat_eq, slice_index_or, slice_set}
use Rattle.bs_bits.specs.Set.{has}
use Rattle.bs_words.specs.Contents.{contents}
use Rattle.bs_words.proofs.Lists.{none_in, first_in, later_in, in_cons}
use Rattle.dataflow.specs.Rows.{set_in_row}
use Rattle.dataflow.specs.declared.flow.Place as place
use Rattle.sink.specs.Sights.{sighted, noted_number, noted_numbers, noted_places}
use Rattle.sink.specs.declared.sights.Sight.{Sight}
use Rattle.sink.specs.declared.sights.Sight.TheVariants.{Unseen, Once, Often}
use Rattle.bs_words.proofs.Truths.{not_both}

-- ---- writes into lists

pub length_set : {A : Type 0} (xs : List A) (n : ℕ) (v : A) → length (slice_set xs n v) ≡ length xs
length_set [] n v = refl
length_set (x ∷ xs) zero v = refl
length_set (x ∷ xs) (suc n) v = ap suc (length_set xs n v)

pub at_set : {A : Type 0} (xs : List A) (n : ℕ) (v d : A) → n < length xs → slice_index_or (slice_set xs n v) n d ≡ v
at_set [] n v d lt = absurd (omega (arith, lt))
at_set (x ∷ xs) zero v d lt = refl
at_set (x ∷ xs) (suc n) v d lt = at_set xs n v d (omega (arith, lt))

pub off_set : {A : Type 0} (xs : List A) (n k : ℕ) (v d : A) → (k ≡ n → ⊥) → slice_index_or (slice_set xs n v) k d ≡ slice_index_or xs k d
off_set [] n k v d apart = refl
off_set (x ∷ xs) zero zero v d apart = absurd (apart refl)
off_set (x ∷ xs) zero (suc k) v d apart = refl
off_set (x ∷ xs) (suc n) zero v d apart = refl
off_set (x ∷ xs) (suc n) (suc k) v d apart = off_set xs n k v d (λ e. apart (ap suc e))

pub same_or : (k n : ℕ) → (k ≡ n) ⊎ (k ≡ n → ⊥)
same_or k n =
    ⊎_elim (λ e. inl (eqb-true k n e)) (λ e. inr (λ s. not_both (nat_eq k n) (eq-eqb k n s) e)) (cases_Bool (nat_eq k n))

-- ---- one number

-- what a sight says of the places where the number is seen
pub data Sees (S : ℕ → Type 0) : Sight → Type 0 where
  unseen : ((q : ℕ) → S q → ⊥) → Sees S Unseen
  once : (p : ℕ) → S p → ((q : ℕ) → S q → q ≡ p) → Sees S (Once p)
  often : (p q : ℕ) → S p → S q → (p ≡ q → ⊥) → Sees S Often

pub same_sees : (S T : ℕ → Type 0) {s : Sight} → ((q : ℕ) → T q → S q) → ((q : ℕ) → S q → T q) → Sees S s → Sees T s
same_sees S T back on (unseen none) = unseen (λ q h. none q (back q h))
same_sees S T back on (once p h only) = once p (on p h) (λ q t. only q (back q t))
same_sees S T back on (often p q h k apart) = often p q (on p h) (on q k) apart

noted_sees : (S T : ℕ → Type 0) (p : ℕ) {s : Sight} → ((q : ℕ) → T q → S q ⊎ (q ≡ p)) → ((q : ℕ) → S q → T q) → T p → Sees S s → Sees T (sighted p s)
noted_sees S T p back on h (unseen none) = once p h (λ q t. ⊎_elim (λ s. absurd (none q s)) (λ e. e) (back q t))
noted_sees S T p back on h (once r s only) =
    ⊎_elim
    (λ e.
    subst (Sees T) (ap (λ b. cond b (Once r) Often) (sym e))
    (once r (on r s) (λ q t. ⊎_elim (only q) (λ same. same ∙ sym (eqb-true r p e)) (back q t))))
    (λ e.
    subst (Sees T) (ap (λ b. cond b (Once r) Often) (sym e))
    (often r p (on r s) h (λ same. not_both (nat_eq r p) (eq-eqb r p same) e)))
    (cases_Bool (nat_eq r p))
noted_sees S T p back on h (often a b s t apart) = often a b (on a s) (on b t) apart

-- ---- all numbers

abbrev pub AreSeen : (ℕ → ℕ → Type 0) → List Sight → Type 0
AreSeen S t = (n : ℕ) → n < length t → Sees (S n) (slice_index_or t n Unseen)

abbrev SeenNow : (ℕ → ℕ → Type 0) → ℕ → List ℕ → List Bool → ℕ → ℕ → Type 0
SeenNow S p ns fresh n q = S n q ⊎ ((q ≡ p) × Contains ns n × (has fresh n ≡ true))

length_number : (fresh : List Bool) (p n : ℕ) (t : List Sight) → length (noted_number fresh p n t) ≡ length t
length_number fresh p n t = by (has fresh n)
  where
    by : (b : Bool) → length (cond b (slice_set t n (sighted p (slice_index_or t n Unseen))) t) ≡ length t
    by true = length_set t n (sighted p (slice_index_or t n Unseen))
    by false = refl

length_numbers : (fresh : List Bool) (p : ℕ) (ns : List ℕ) (t : List Sight) → length (noted_numbers fresh p ns t) ≡ length t
length_numbers fresh p [] t = refl
length_numbers fresh p (n ∷ ns) t = length_numbers fresh p ns (noted_number fresh p n t) ∙ length_number fresh p n t

number_seen : (S : ℕ → ℕ → Type 0) (fresh : List Bool) (p n : ℕ) (t : List Sight) → AreSeen S t →
    AreSeen (SeenNow S p (n ∷ []) fresh) (noted_number fresh p n t)
number_seen S fresh p n t are k lt =
    ⊎_elim (λ e. set e (same_or k n)) (λ e. unset e) (cases_Bool (has fresh n))
  where
    small : k < length t
    small = subst (λ l. k < l) (length_number fresh p n t) lt

    value : Sight
    value = sighted p (slice_index_or t n Unseen)

    T : ℕ → Type 0
    T = SeenNow S p (n ∷ []) fresh k

    only_n : Contains (n ∷ []) k → k ≡ n
    only_n c = ⊎_elim (λ e. sym e) (λ d. absurd (none_in k d)) (in_cons n k [] c)

    unset : has fresh n ≡ false → Sees T (slice_index_or (noted_number fresh p n t) k Unseen)
    unset e =
        subst (λ (b : Bool). Sees T (slice_index_or (cond b (slice_set t n value) t) k Unseen)) (sym e)
        (same_sees (S k) T
        (λ q h.
        ⊎_elim (λ s. s) (λ x. absurd (not_both (has fresh n) (subst (λ k. has fresh k ≡ true) (only_n x.1) x.2) e)) h)
        (λ q s. inl s) (are k small))

    set : has fresh n ≡ true → (k ≡ n) ⊎ (k ≡ n → ⊥) → Sees T (slice_index_or (noted_number fresh p n t) k Unseen)
    set e (inl same) =
        subst (λ (b : Bool). Sees T (slice_index_or (cond b (slice_set t n value) t) k Unseen)) (sym e)
        (subst (Sees T)
        (ap (λ j. sighted p (slice_index_or t j Unseen)) same
        ∙ sym (at_set t n value Unseen (subst (λ j. j < length t) same small))
        ∙ ap (λ j. slice_index_or (slice_set t n value) j Unseen) (sym same))
        (noted_sees (S k) T p (λ q h. ⊎_elim (λ s. inl s) (λ x. inr x.0) h) (λ q s. inl s)
        (inr (refl, subst (Contains (n ∷ [])) (sym same) (first_in n []), subst (λ j. has fresh j ≡ true) (sym same) e)) (are k small)))
    set e (inr apart) =
        subst (λ (b : Bool). Sees T (slice_index_or (cond b (slice_set t n value) t) k Unseen)) (sym e)
        (subst (Sees T) (sym (off_set t n k value Unseen apart))
        (same_sees (S k) T (λ q h. ⊎_elim (λ s. s) (λ x. absurd (apart (only_n x.1))) h) (λ q s. inl s)
        (are k small)))

numbers_seen : (S : ℕ → ℕ → Type 0) (fresh : List Bool) (p : ℕ) (ns : List ℕ) (t : List Sight) → AreSeen S t →
    AreSeen (SeenNow S p ns fresh) (noted_numbers fresh p ns t)
numbers_seen S fresh p [] t are k lt =
    same_sees (S k) (SeenNow S p [] fresh k) (λ q h. ⊎_elim (λ s. s) (λ x. absurd (none_in k x.1)) h)
    (λ q s. inl s) (are k lt)
numbers_seen S fresh p (n ∷ ns) t are k lt =
    same_sees (SeenNow (SeenNow S p (n ∷ []) fresh) p ns fresh k) (SeenNow S p (n ∷ ns) fresh k)
    (λ q h.
    ⊎_elim (λ s. inl (inl s))
    (λ x.
    ⊎_elim (λ e. inl (inr (x.0, subst (Contains (n ∷ [])) e (first_in n []), x.2))) (λ d. inr (x.0, d, x.2)) (in_cons n k ns x.1)) h)
    (λ q h.
    ⊎_elim
    (λ s.
    ⊎_elim (λ s. inl s)
    (λ x.
    inr (x.0, ⊎_elim (λ e. subst (Contains (n ∷ ns)) e (first_in n ns)) (λ d. absurd (none_in k d)) (in_cons n k [] x.1), x.2)) s)
    (λ x. inr (x.0, later_in n k ns x.1, x.2)) h)
    (numbers_seen (SeenNow S p (n ∷ []) fresh) fresh p ns (noted_number fresh p n t) (number_seen S fresh p n t are) k lt)

-- ---- all places

-- the number is killed at this place, and in the row there
pub record InPlaces (rows : List (List Bool)) (b : ℕ) (xs : List place.Place) (n q : ℕ) : Type 0 where
  pub index : ℕ
  pub is : q ≡ b + index
  pub killed : Contains (slice_index_or (map (λ x. contents x.writes) xs) index []) n
  pub fresh : has (set_in_row rows q) n ≡ true

abbrev SeenThere : (ℕ → ℕ → Type 0) → List (List Bool) → ℕ → List place.Place → ℕ → ℕ → Type 0
SeenThere S rows b xs n q = S n q ⊎ InPlaces rows b xs n q

pub length_places : (rows : List (List Bool)) (b : ℕ) (xs : List place.Place) (t : List Sight) → length (noted_places rows b xs t) ≡ length t
length_places rows b [] t = refl
length_places rows b (x ∷ xs) t =
    length_places rows (suc b) xs (noted_numbers (set_in_row rows b) b (contents x.writes) t) ∙ length_numbers (set_in_row rows b) b (contents x.writes) t

places_seen : (S : ℕ → ℕ → Type 0) (rows : List (List Bool)) (b : ℕ) (xs : List place.Place) (t : List Sight) → AreSeen S t →
    AreSeen (SeenThere S rows b xs) (noted_places rows b xs t)
places_seen S rows b [] t are k lt =
    same_sees (S k) (SeenThere S rows b [] k) (λ q h. ⊎_elim (λ s. s) (λ x. absurd (none_in k x.killed)) h)
    (λ q s. inl s) (are k lt)
places_seen S rows b (x ∷ xs) t are k lt =
    same_sees (SeenThere (SeenNow S b (contents x.writes) (set_in_row rows b)) rows (suc b) xs k) (SeenThere S rows b (x ∷ xs) k)
    (λ q h. ⊎_elim (λ s. inl (inl s)) (λ y. back q y) h)
    (λ q h. ⊎_elim (λ s. ⊎_elim (λ s. inl s) (λ y. inr (here q y)) s) (λ y. inr (further q y)) h)
    (places_seen (SeenNow S b (contents x.writes) (set_in_row rows b)) rows (suc b) xs (noted_numbers (set_in_row rows b) b (contents x.writes) t)
    (numbers_seen S (set_in_row rows b) b (contents x.writes) t are) k lt)
  where
    next_is : (q i : ℕ) → q ≡ suc b + i → q ≡ b + suc i
    next_is q i e = omega (arith, e)

    was_next : (q i : ℕ) → q ≡ b + suc i → q ≡ suc b + i
    was_next q i e = omega (arith, e)

    none_more : (q : ℕ) → q ≡ b → q ≡ b + 0
    none_more q e = omega (arith, e)

    none_was : (q : ℕ) → q ≡ b + 0 → q ≡ b
    none_was q e = omega (arith, e)

    here : (q : ℕ) → (q ≡ b) × Contains (contents x.writes) k × (has (set_in_row rows b) k ≡ true) → InPlaces rows b (x ∷ xs) k q
    here q y =
        record {
          index = 0;
          is = none_more q y.0;
          killed = y.1;
          fresh = subst (λ q. has (set_in_row rows q) k ≡ true) (sym y.0) y.2;
        }

    further : (q : ℕ) → InPlaces rows (suc b) xs k q → InPlaces rows b (x ∷ xs) k q
    further q y = record { index = suc y.index; is = next_is q y.index y.is; killed = y.killed; fresh = y.fresh }

    by : (q i : ℕ) → q ≡ b + i → Contains (slice_index_or (map (λ x. contents x.writes) (x ∷ xs)) i []) k → has (set_in_row rows q) k ≡ true →
        SeenThere (SeenNow S b (contents x.writes) (set_in_row rows b)) rows (suc b) xs k q
    by q zero e c h = inl (inr (none_was q e, c, subst (λ q. has (set_in_row rows q) k ≡ true) (none_was q e) h))
    by q (suc i) e c h = inr (record { index = i; is = was_next q i e; killed = c; fresh = h })

    back : (q : ℕ) → InPlaces rows b (x ∷ xs) k q → SeenThere (SeenNow S b (contents x.writes) (set_in_row rows b)) rows (suc b) xs k q
    back q y = by q y.index y.is y.killed y.fresh

none_seen : (size : ℕ) → AreSeen (λ n q. ⊥) (replicate size Unseen)
none_seen size n lt = subst (Sees (λ q. ⊥)) (sym (unseen_at size n)) (unseen (λ q h. h))
  where
    unseen_at : (size n : ℕ) → slice_index_or (replicate size Unseen) n Unseen ≡ Unseen
    unseen_at zero n = refl
    unseen_at (suc size) zero = refl
    unseen_at (suc size) (suc n) = unseen_at size n

-- The table says where each number is killed and in the row.
pub all_seen : (rows : List (List Bool)) (xs : List place.Place) (size : ℕ) →
    AreSeen (InPlaces rows 0 xs) (noted_places rows 0 xs (replicate size Unseen))
all_seen rows xs size n lt =
    same_sees (SeenThere (λ n q. ⊥) rows 0 xs n) (InPlaces rows 0 xs n) (λ q h. inr h) (λ q h. ⊎_elim (λ z. absurd z) (λ x. x) h)
    (places_seen (λ n q. ⊥) rows 0 xs (replicate size Unseen) (none_seen size) n lt)
