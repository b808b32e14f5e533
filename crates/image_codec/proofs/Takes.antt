-- What is read is what is spelled: the tools.
use Rattle.std.proofs.Common.{◌≡◌, ℕ, zero, suc, ◌+◌, ◌<◌, Bool, true, false, cond, List, [], ◌∷◌, ◌++◌, length, get_or, take, drop, Result, Ok, Err, refl, sym, ap, subst, ◌∙◌, append_assoc, arith, inl, inr}
use Rattle.std.specs.Bool.{Decides}
use Rattle.std.specs.List.{flat_map}
use Rattle.std.proofs.lemmas.Bool.{cases_lt}
use Rattle.std.proofs.lemmas.List.{length-take, get_or-drop, get_or-take, get_or_past, append-nil}
use Rattle.image_form.specs.Fields.{◌>>=◌, kept, rows_at}

abbrev pub IsBytes : List ℕ → Type 0
IsBytes bytes = (i : ℕ) → get_or bytes i 0 < 256

pub IsBytes-drop : (n : ℕ) (bytes : List ℕ) → IsBytes bytes → IsBytes (drop n bytes)
IsBytes-drop n bytes h i = rw get_or-drop (h (n + i))

pub IsBytes-take : (n : ℕ) (bytes : List ℕ) → IsBytes bytes → IsBytes (take n bytes)
IsBytes-take n bytes h i =
    elim (cases_lt i n) [
      | inl lt ↦ rw (get_or-take n bytes i 0 lt) (h i)
      | inr le ↦ rw (get_or_past (take n bytes) i 0 (omega (arith, length-take n bytes))) (omega arith)
    ]

pub IsBytes-rest : (b : ℕ) (bytes : List ℕ) → IsBytes (b ∷ bytes) → IsBytes bytes
IsBytes-rest b bytes h i = h (suc i)

-- the value of a step that did not fail
pub bind_ok : {A B E : Type 0} (r : Result A E) (f : A → Result B E) (y : B) → (r >>= f) ≡ Ok y → (x : A) × (r ≡ Ok x) × (f x ≡ Ok y)
bind_ok (Ok x) f y e = (x, refl, e)
bind_ok (Err d) f y e = absurd cc

-- a test that did not fail
pub guard_ok : {A E : Type 0} (b : Bool) (d : E) (x y : A) → cond b (Err d) (Ok x) ≡ Ok y → (b ≡ false) × (x ≡ y)
guard_ok true d x y e = absurd cc
guard_ok false d x y e = (refl, cc)

pub passed_ok : {A E : Type 0} (b : Bool) (d : E) (x y : A) → cond b (Ok x) (Err d) ≡ Ok y → (b ≡ true) × (x ≡ y)
passed_ok true d x y e = (refl, cc)
passed_ok false d x y e = absurd cc

abbrev done : {A : Type 0} → A → Result A ℕ
done x = Ok x

pub ok_is : {A : Type 0} (x y : A) → done x ≡ done y → x ≡ y
ok_is x y e = cc

-- what a reader took from the front
pub record Takes (bytes text rest : List ℕ) : Type 0 where
  pub parts : bytes ≡ text ++ rest
  pub rest_fits : IsBytes rest

pub Takes-then : (a x b y c : List ℕ) → Takes a x b → Takes b y c → Takes a (x ++ y) c
Takes-then a x b y c p q = record { parts = p.parts ∙ ap (λ (t : List ℕ). x ++ t) q.parts ∙ sym (append_assoc x y c); rest_fits = q.rest_fits }

pub Takes-nil : (a : List ℕ) → IsBytes a → Takes a [] a
Takes-nil a fits = record { parts = refl; rest_fits = fits }

-- A field reads what is spelled so and keeps a rule, and nothing else.
pub record IsField {A : Type 0} (field : List ℕ → Result (A × List ℕ) ℕ) (spell : A → List ℕ) (Fits : A → Type 0) : Type 0 where
  pub takes : (bytes : List ℕ) (x : A) (rest : List ℕ) → IsBytes bytes → field bytes ≡ Ok (x, rest) → Takes bytes (spell x) rest × Fits x
  pub again : (x : A) (rest : List ℕ) → Fits x → field (spell x ++ rest) ≡ Ok (x, rest)

-- A body reads what is spelled so and keeps a rule, and nothing else.
pub record IsBody {A : Type 0} (body : List ℕ → Result A ℕ) (spell : A → List ℕ) (Fits : A → Type 0) : Type 0 where
  pub takes : (bytes : List ℕ) (x : A) → IsBytes bytes → body bytes ≡ Ok x → (bytes ≡ spell x) × Fits x
  pub again : (x : A) → Fits x → body (spell x) ≡ Ok x

module _ {A : Type 0} (field : List ℕ → Result (A × List ℕ) ℕ) (spell : A → List ℕ) (Fits : A → Type 0) (is : IsField field spell Fits) where
  pub alike : (Other : A → Type 0) → ((x : A) → Fits x → Other x) → ((x : A) → Other x → Fits x) → IsField field spell Other
  alike Other to from = record {
    takes = λ bytes x rest fits e. let t = is.takes bytes x rest fits e in (t.0, to x t.1);
    again = λ x rest fits. is.again x rest (from x fits);
  }

  kept_takes : (rule : A → Bool) (Rule : A → Type 0) (decides : (x : A) → Decides (rule x) (Rule x))
      (bytes : List ℕ) (x : A) (rest : List ℕ) → IsBytes bytes → kept rule field bytes ≡ Ok (x, rest) → Takes bytes (spell x) rest × (Fits x × Rule x)
  unfolding kept
  kept_takes rule Rule decides bytes x rest fits e =
      let a = bind_ok (field bytes) (λ y. cond (rule y.0) (Ok y) (Err (length bytes))) (x, rest) e in
      let g = passed_ok (rule a.0.0) (length bytes) a.0 (x, rest) a.2 in
      let t = is.takes bytes a.0.0 a.0.1 fits a.1 in
      subst (λ (y : A × List ℕ). Takes bytes (spell y.0) y.1 × (Fits y.0 × Rule y.0)) g.1 (t.0, (t.1, (decides a.0.0).0 g.0))

  kept_again : (rule : A → Bool) (Rule : A → Type 0) (decides : (x : A) → Decides (rule x) (Rule x))
      (x : A) (rest : List ℕ) → Fits x × Rule x → kept rule field (spell x ++ rest) ≡ Ok (x, rest)
  unfolding kept
  kept_again rule Rule decides x rest fits = rw (is.again x rest fits.0, (decides x).1 fits.1) refl

  pub kept_field : (rule : A → Bool) (Rule : A → Type 0) → ((x : A) → Decides (rule x) (Rule x)) → IsField (kept rule field) spell (λ x. Fits x × Rule x)
  kept_field rule Rule decides = record { takes = kept_takes rule Rule decides; again = kept_again rule Rule decides }

-- ---- rows

-- each row keeps the rule in view of those before it
abbrev pub AllAfter : {A : Type 0} → (List A → A → Type 0) → List A → List A → Type 0
AllAfter Rule before [] = Unit {0}
AllAfter Rule before (x ∷ xs) = Rule before x × AllAfter Rule (before ++ x ∷ []) xs

-- what reading the rows gave
pub record TakesRows {A : Type 0} (spell : A → List ℕ) (Rule : List A → A → Type 0) (before : List A) (n : ℕ) (bytes : List ℕ) (all : List A) (rest : List ℕ) : Type 0 where
  pub rows : List A
  pub all_is : all ≡ before ++ rows
  pub count : length rows ≡ n
  pub takes : Takes bytes (flat_map spell rows) rest
  pub rules : AllAfter Rule before rows

module _ {A : Type 0} (row : List A → List ℕ → Result (A × List ℕ) ℕ) (spell : A → List ℕ) (Rule : List A → A → Type 0) (is : (before : List A) → IsField (row before) spell (Rule before)) where
  pub rows_take : (before : List A) (n : ℕ) (bytes : List ℕ) (all : List A) (rest : List ℕ) → IsBytes bytes → rows_at row before n bytes ≡ Ok (all, rest) → TakesRows spell Rule before n bytes all rest
  unfolding rows_at
  rows_take before zero bytes all rest fits e =
      let same = ok_is (before, bytes) (all, rest) e in
      record {
        rows = [];
        all_is = sym (ap (λ (p : List A × List ℕ). p.0) same) ∙ sym (append-nil before);
        count = refl;
        takes = subst (λ (p : List A × List ℕ). Takes bytes [] p.1) same (Takes-nil bytes fits);
        rules = tt;
      }
  rows_take before (suc n) bytes all rest fits e =
      let a = bind_ok (row before bytes) (λ x. rows_at row (before ++ x.0 ∷ []) n x.1) (all, rest) e in
      let t = (is before).takes bytes a.0.0 a.0.1 fits a.1 in
      let r = rows_take (before ++ a.0.0 ∷ []) n a.0.1 all rest t.0.rest_fits a.2 in
      record {
        rows = a.0.0 ∷ r.rows;
        all_is = r.all_is ∙ append_assoc before (a.0.0 ∷ []) r.rows;
        count = ap suc r.count;
        takes = Takes-then bytes (spell a.0.0) a.0.1 (flat_map spell r.rows) rest t.0 r.takes;
        rules = (t.1, r.rules);
      }

  pub rows_again : (before xs : List A) (rest : List ℕ) → AllAfter Rule before xs → rows_at row before (length xs) (flat_map spell xs ++ rest) ≡ Ok (before ++ xs, rest)
  unfolding rows_at
  rows_again before [] rest rules = ap (λ (all : List A). Ok (all, rest)) (sym (append-nil before))
  rows_again before (x ∷ xs) rest rules =
      let regrouped : flat_map spell (x ∷ xs) ++ rest ≡ spell x ++ (flat_map spell xs ++ rest) = append_assoc (spell x) (flat_map spell xs) rest in
      ap (rows_at row before (suc (length xs))) regrouped
      ∙ rw ((is before).again x (flat_map spell xs ++ rest) rules.0, rows_again (before ++ x ∷ []) xs rest rules.1) (ap (λ (all : List A). Ok (all, rest)) (append_assoc before (x ∷ []) xs))
