-- The stacks of names and labels, which contracts see from their tops.
use Rattle.std.proofs.Common.{◌≡◌, ℕ, suc, ◌-◌, Bool, true, false, List, [], ◌∷◌, ◌++◌, length, map, reverse, take, drop, refl, ap, ◌∙◌, append_assoc, arith}
use Rattle.std.proofs.lemmas.List.{length-append, reverse-append}
use Rattle.cmm_tree.specs.Tree.{is_bare}
use Rattle.cmm_types.proofs.Leaving.{drop_front}
use Rattle.cmm_types.proofs.Stacks.{lowest}
use Rattle.selection_rules.specs.Select.{Label, unless_bare_mark, in_handlers, labels_within_try}
use Rattle.selection_scope.specs.Scoping.{labels_outside_try}

-- what is left below is what was there before
pub left-below : {A B : Type 0} (f : A → B) (n : ℕ) (xs : List A) (front rest : List B) → map f (reverse xs) ≡ front ++ rest → length rest ≡ n
    → map f (reverse (take n xs)) ≡ rest
left-below f n xs front rest e same =
    let count : length (front ++ rest) - n ≡ length front = let sum = length-append front rest in omega (arith, sum, same) in
    lowest f n xs ∙ ap (λ l. drop (length l - n) l) e ∙ ap (λ k. drop k (front ++ rest)) count ∙ drop_front front rest

-- the last item is at the top
pub top : {A B : Type 0} (f : A → B) (xs : List A) (x : A) → map f (reverse (xs ++ x ∷ [])) ≡ f x ∷ map f (reverse xs)
top f xs x = ap (map f) (reverse-append xs (x ∷ []))

handlers-append : (xs ys : List Label) → in_handlers (xs ++ ys) ≡ in_handlers xs ++ in_handlers ys
handlers-append [] ys = refl
handlers-append (t ∷ xs) ys = by-bare (is_bare t.label) t (in_handlers (xs ++ ys)) (in_handlers xs) (in_handlers ys) (handlers-append xs ys)
  where
    by-bare : (b : Bool) (t : Label) (all left more : List Label) → all ≡ left ++ more → unless_bare_mark b t all ≡ unless_bare_mark b t left ++ more
    by-bare true t all left more e = e
    by-bare false t all left more e = ap (λ l. t ∷ l) e

-- the last handler is below the others
pub below-bare : (xs : List Label) (t : Label) (rest : List Label) → is_bare t.label ≡ true → in_handlers (xs ++ t ∷ []) ++ rest ≡ in_handlers xs ++ rest
below-bare xs t rest bare =
    ap (λ l. l ++ rest) (handlers-append xs (t ∷ []) ∙ ap (λ b. in_handlers xs ++ unless_bare_mark b t []) bare ∙ append-none (in_handlers xs))
  where
    append-none : {A : Type 0} (xs : List A) → xs ++ [] ≡ xs
    append-none [] = refl
    append-none (x ∷ xs) = ap (λ l. x ∷ l) (append-none xs)

pub below-named : (xs : List Label) (t : Label) (rest : List Label) → is_bare t.label ≡ false → in_handlers (xs ++ t ∷ []) ++ rest ≡ in_handlers xs ++ (t ∷ rest)
below-named xs t rest bare =
    ap (λ l. l ++ rest) (handlers-append xs (t ∷ []) ∙ ap (λ b. in_handlers xs ++ unless_bare_mark b t []) bare)
    ∙ append_assoc (in_handlers xs) (t ∷ []) rest

pub higher-deeper : (ls : List Label) → labels_outside_try (labels_within_try ls) ≡ ls
higher-deeper [] = refl
higher-deeper (t ∷ ls) =
    let same : suc t.tries - 1 ≡ t.tries = omega arith in
    ap (λ n. record { label = t.label; params = t.params; number = t.number; tries = n } ∷ labels_outside_try (labels_within_try ls)) same ∙ ap (λ l. t ∷ l) (higher-deeper ls)
