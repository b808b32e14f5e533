-- Reading rows one after the other, as a loop does.
use Rattle.std.proofs.Common.{◌≡◌, ℕ, zero, suc, ◌-◌, ◌+◌, ◌≤◌, ◌<◌, List, [], ◌∷◌, ◌++◌, length, map, Some, None, Result, Ok, Err, Bool, true, refl, sym, ap, ◌∙◌, arith}
use Rattle.std.specs.List.{slice_get}
use Rattle.image_form.specs.declared.fault.Stop.{Stop}
use Rattle.image_form.specs.declared.fault.Stop.TheVariants as stops
use Rattle.image_form.specs.Fields.{Stops, rows_at, at_some, at_last}
use Rattle.std.proofs.lemmas.List.{length-map}

pub goes_on : {A : Type 0} (row : List A → List ℕ → Result (A × List ℕ) ℕ) (before : List A) (n i : ℕ) (bytes : List ℕ) (x : A) (after : List ℕ) (total : Result (List A × List ℕ) ℕ)
    → i < n → row before bytes ≡ Ok (x, after) → rows_at row before (n - i) bytes ≡ total → rows_at row (before ++ x ∷ []) (n - (i + 1)) after ≡ total
unfolding rows_at
goes_on row before n i bytes x after total lt read so_far =
    let k : n - i ≡ suc (n - (i + 1)) = omega arith in
    let one : rows_at row before (n - i) bytes ≡ rows_at row (before ++ x ∷ []) (n - (i + 1)) after = rw (k, read) refl in
    sym one ∙ so_far

pub stops_at : {A : Type 0} (e : Stop) (row : List A → List ℕ → Result (A × List ℕ) ℕ) (before : List A) (n i : ℕ) (bytes : List ℕ) (total : Result (List A × List ℕ) ℕ)
    → i < n → Stops e (row before bytes) → rows_at row before (n - i) bytes ≡ total → Stops e total
unfolding rows_at
stops_at stops.Memory row before n i bytes total lt read so_far = tt
stops_at (stops.Left left) row before n i bytes total lt read so_far =
    let k : n - i ≡ suc (n - (i + 1)) = omega arith in
    let one : rows_at row before (n - i) bytes ≡ Err left = rw (k, read) refl in
    sym so_far ∙ one

pub is_done : {A : Type 0} (row : List A → List ℕ → Result (A × List ℕ) ℕ) (before : List A) (n i : ℕ) (bytes : List ℕ) (total : Result (List A × List ℕ) ℕ)
    → n ≤ i → rows_at row before (n - i) bytes ≡ total → total ≡ Ok (before, bytes)
unfolding rows_at
is_done row before n i bytes total le so_far =
    let k : n - i ≡ 0 = omega arith in
    let one : rows_at row before (n - i) bytes ≡ Ok (before, bytes) = rw k refl in
    sym so_far ∙ one

-- a test of the last of the rows, seen by view
slice_get-map : {X A : Type 0} (p : A → Bool) (view : X → A) (xs : List X) (i : ℕ) → at_some p (slice_get (map view xs) i) ≡ at_some (λ x. p (view x)) (slice_get xs i)
slice_get-map p view [] i = refl
slice_get-map p view (x ∷ xs) zero = refl
slice_get-map p view (x ∷ xs) (suc i) = slice_get-map p view xs i

pub at_last-map : {X A : Type 0} (p : A → Bool) (view : X → A) (xs : List X) → at_last p (map view xs) ≡ at_some (λ x. p (view x)) (slice_get xs (length xs - 1))
unfolding at_last
at_last-map p view xs = rw (length-map xs view) (slice_get-map p view xs (length xs - 1))

pub none_at_last : {X A : Type 0} (p : A → Bool) (view : X → A) (xs : List X) → None ≡ slice_get xs (length xs - 1) → true ≡ at_last p (map view xs)
none_at_last p view xs e = sym (at_last-map p view xs ∙ ap (at_some (λ x. p (view x))) (sym e))

pub some_at_last : {X A : Type 0} (p : A → Bool) (view : X → A) (xs : List X) (x : X) → Some x ≡ slice_get xs (length xs - 1) → p (view x) ≡ at_last p (map view xs)
some_at_last p view xs x e = sym (at_last-map p view xs ∙ ap (at_some (λ y. p (view y))) (sym e))

pub none_at_last' : {A : Type 0} (p : A → Bool) (xs : List A) → None ≡ slice_get xs (length xs - 1) → true ≡ at_last p xs
unfolding at_last
none_at_last' p xs e = ap (at_some p) e

pub some_at_last' : {A : Type 0} (p : A → Bool) (xs : List A) (x : A) → Some x ≡ slice_get xs (length xs - 1) → p x ≡ at_last p xs
unfolding at_last
some_at_last' p xs x e = ap (at_some p) e
