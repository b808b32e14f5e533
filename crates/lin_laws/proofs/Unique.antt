-- Exact descriptors are unique.
use Rattle.std.proofs.Common.{◌≡◌, ℕ, suc, ◌%◌, ◌<◌, ⊎_elim, List, [], ◌∷◌, refl, sym, ◌∙◌, subst, arith}
use Rattle.std.proofs.lemmas.List.Elements.{All-contains}
use Rattle.std.specs.List.{Contains, AllPairs}
use Rattle.lin_ir.specs.Descriptors.{ComesBefore, register_first, rising, IsDescr, Describes, AreExact}
use Rattle.lin_ir.specs.declared.descr.Descr.{Descr}
use Rattle.lin_ir.specs.declared.lin.Line.{Line}
use Rattle.lin_ir.specs.declared.lin.Lin.{Lin}
use Rattle.bs_words.proofs.Lists.{none_in, first_in, later_in, in_cons}

-- ---- lists in strict order

module _ {A : Type 0} (R : A → A → Type 0) where
  pairs_first : (x : A) (xs : List A) → AllPairs R (x ∷ xs) → (y : A) → Contains xs y → R x y
  pairs_first x xs p y c =
      let le = c.1 in
      subst (λ z. R x z) c.2 (p 0 (suc c.0) y (omega arith) (omega (arith, le)))

  pairs_rest : (x : A) (xs : List A) → AllPairs R (x ∷ xs) → AllPairs R xs
  pairs_rest x xs p = λ i j d lt le. p (suc i) (suc j) d (omega (arith, lt)) (omega (arith, le))

  module _ (asymmetric : (x y : A) → R x y → R y x → ⊥) where
    none_twice : (x : A) (xs : List A) → AllPairs R (x ∷ xs) → Contains xs x → ⊥
    none_twice x xs p c = let r = pairs_first x xs p x c in asymmetric x x r r

    same_head : (x y : A) (xs ys : List A) → AllPairs R (x ∷ xs) → AllPairs R (y ∷ ys) → Contains (y ∷ ys) x → Contains (x ∷ xs) y →
        x ≡ y
    same_head x y xs ys p q c d =
        ⊎_elim (λ e. sym e)
        (λ in_ys. ⊎_elim (λ e. e) (λ in_xs. absurd (asymmetric x y (pairs_first x xs p y in_xs) (pairs_first y ys q x in_ys)))
        (in_cons x y xs d)) (in_cons y x ys c)

    tail_within : (x y : A) (xs ys : List A) → AllPairs R (x ∷ xs) → x ≡ y → ((z : A) → Contains (x ∷ xs) z → Contains (y ∷ ys) z) →
        (z : A) → Contains xs z → Contains ys z
    tail_within x y xs ys p e to z c =
        ⊎_elim (λ f. absurd (none_twice x xs p (subst (Contains xs) (sym f ∙ sym e) c))) (λ d. d) (in_cons y z ys (to z (later_in x z xs c)))

    -- two lists in strict order that have the same members are the same
    pub ordered_same : (xs ys : List A) → AllPairs R xs → AllPairs R ys → ((z : A) → Contains xs z → Contains ys z) →
        ((z : A) → Contains ys z → Contains xs z) → xs ≡ ys
    ordered_same [] [] p q to from = refl
    ordered_same [] (y ∷ ys) p q to from = absurd (none_in y (from y (first_in y ys)))
    ordered_same (x ∷ xs) [] p q to from = absurd (none_in x (to x (first_in x xs)))
    ordered_same (x ∷ xs) (y ∷ ys) p q to from =
        let e : x ≡ y = same_head x y xs ys p q (to x (first_in x xs)) (from y (first_in y ys)) in
        let rest : xs ≡ ys =
        ordered_same xs ys (pairs_rest x xs p) (pairs_rest y ys q) (tail_within x y xs ys p e to)
        (tail_within y x ys xs q (sym e) from) in
        cc

-- ---- entries

parts : (a b : ℕ) → a % 2 ≡ 1 → b % 2 ≡ 0 → a % 2 ≡ b % 2 → ⊥
parts a b e f g = omega arith

comes_once : (a b : ℕ) → ComesBefore a b → ComesBefore b a → ⊥
comes_once a b (register_first e f) (register_first g h) = omega arith
comes_once a b (register_first e f) (rising g h) = parts a b e f (sym g)
comes_once a b (rising e f) (register_first g h) = parts b a g h (sym e)
comes_once a b (rising e f) (rising g h) = omega arith

-- ---- descriptors

abbrev descr : ℕ → ℕ → List ℕ → Descr
descr a s xs = record { after = a; size = s; entries = xs }

same_fields : (a b s t : ℕ) (xs ys : List ℕ) → a ≡ b → s ≡ t → xs ≡ ys →
    descr a s xs ≡ descr b t ys
same_fields a b s t xs ys e f g = cc

module _ (m : Lin) where
  pub same_descr : (i : Line) (next : List Line) (tries : List ℕ) (d e : Descr) → IsDescr m i next tries d → IsDescr m i next tries e →
      d ≡ e
  same_descr i next tries d e h k =
      let one = h.after in
      let other = k.after in
      same_fields d.after e.after d.size e.size d.entries e.entries (omega (arith, one, other)) (h.size ∙ sym k.size)
      (ordered_same ComesBefore comes_once d.entries e.entries h.order k.order (λ z c. (k.exact z).1 ((h.exact z).0 c))
      (λ z c. (h.exact z).1 ((k.exact z).0 c)))

  among : (ds es : List Descr) → AreExact m ds → AreExact m es → (d : Descr) → Contains ds d → Contains es d
  among ds es h k d c =
      let of = All-contains (Describes m) ds d h.others c in
      let e = k.each of.line of.next of.tries of.stands of.point of.traps in
      subst (Contains es) (sym (same_descr of.line of.next of.tries d e.0 of.is e.2)) e.1

  in_turn : (d e : Descr) → d.after < e.after → e.after < d.after → ⊥
  in_turn d e lt gt = omega (arith, lt, gt)

  -- a function has one list of exact descriptors
  pub exact_unique : (ds es : List Descr) → AreExact m ds → AreExact m es → ds ≡ es
  exact_unique ds es h k =
      ordered_same (λ (d e : Descr). d.after < e.after) in_turn ds es h.order k.order (among ds es h k) (among es ds k h)
