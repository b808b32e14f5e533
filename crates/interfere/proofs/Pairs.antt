-- Tables that get pairs, one after the other.
use Rattle.std.proofs.Common.{◌≡◌, ℕ, ◌+◌, ◌<◌, ◌≤◌, Bool, true, false, ◌⊎◌, inl, inr, ⊎_elim, List, [], ◌∷◌, ◌++◌}
use Rattle.std.proofs.Common.{length, take, get_or, refl, sym, ap, ◌∙◌, subst, arith}
use Rattle.std.specs.List.{All, Contains}
use Rattle.std.specs.Prelude.{Option}
use Rattle.std.proofs.lemmas.List.{take_more, take_all}
use Rattle.std.proofs.lemmas.List.Elements.{Contains-get_or, Contains-append_left, Contains-append_right, Contains-append_cases}
use Rattle.bs_bits.specs.Set.{has}
use Rattle.dataflow.specs.Rows.{set_in_row}
use Rattle.bs_words.proofs.Lists.{none_in, first_in, in_cons}
use Rattle.interfere.specs.Members.{AreMembers}
use Rattle.interfere.specs.Moves.{is_move_from_to}
use Rattle.interfere.specs.Pairs.{Table, EitherWay, one_way, other_way, AddsPairs, ForOne, Meeting, MeetsSet}
use Rattle.interfere.specs.Pairs.{MeetsPlaces}
use Rattle.interfere.specs.declared.moves.Move.{Move}

-- ---- relations

pub either_map : {P Q : ℕ → ℕ → Type 0} → ((n k : ℕ) → P n k → Q n k) → (n k : ℕ) → EitherWay P n k → EitherWay Q n k
either_map f n k (one_way ne h) = one_way ne (f n k h)
either_map f n k (other_way ne h) = other_way ne (f k n h)

either_split : {P Q R : ℕ → ℕ → Type 0} → ((n k : ℕ) → R n k → P n k ⊎ Q n k) → (n k : ℕ) → EitherWay R n k →
    EitherWay P n k ⊎ EitherWay Q n k
either_split f n k (one_way ne h) = ⊎_elim (λ p. inl (one_way ne p)) (λ q. inr (one_way ne q)) (f n k h)
either_split f n k (other_way ne h) = ⊎_elim (λ p. inl (other_way ne p)) (λ q. inr (other_way ne q)) (f k n h)

either_none : {R : ℕ → ℕ → Type 0} → ((n k : ℕ) → R n k → ⊥) → (n k : ℕ) → EitherWay R n k → ⊥
either_none none n k (one_way ne h) = none n k h
either_none none n k (other_way ne h) = none k n h

-- ---- tables

pub adds_none : (t : Table) (R : ℕ → ℕ → Type 0) → ((n k : ℕ) → R n k → ⊥) → AddsPairs t t R
adds_none t R none =
    record {
      len = refl;
      kept = λ n k h. h;
      sound = λ n k h. inl h;
      whole = λ n k h. absurd (either_none none n k h);
    }

-- two relations, and one that says either
pub adds_then : (x y z : Table) (P Q R : ℕ → ℕ → Type 0) → AddsPairs x y P → AddsPairs y z Q → ((n k : ℕ) → R n k → P n k ⊎ Q n k) →
    ((n k : ℕ) → P n k → R n k) → ((n k : ℕ) → Q n k → R n k) → AddsPairs x z R
adds_then x y z P Q R one two split left right =
    record {
      len = two.len ∙ one.len;
      kept = λ n k h. two.kept n k (one.kept n k h);
      sound = λ n k h.
          ⊎_elim (λ old. ⊎_elim (λ first. inl first) (λ p. inr (either_map left n k p)) (one.sound n k old))
          (λ q. inr (either_map right n k q)) (two.sound n k h);
      whole = λ n k h.
          ⊎_elim (λ p. two.kept n k (one.whole n k p)) (λ q. two.whole n k q) (either_split split n k h);
    }

pub adds_same : (x y : Table) (P R : ℕ → ℕ → Type 0) → AddsPairs x y P → ((n k : ℕ) → P n k → R n k) → ((n k : ℕ) → R n k → P n k) →
    AddsPairs x y R
adds_same x y P R h to from =
    record {
      len = h.len;
      kept = h.kept;
      sound = λ n k g. ⊎_elim (λ o. inl o) (λ p. inr (either_map to n k p)) (h.sound n k g);
      whole = λ n k g. h.whole n k (either_map from n k g);
    }

-- ---- one after the other

module _ {A : Type 0} (R : A → ℕ → ℕ → Type 0) where
  none_taken : (xs : List A) (y : A) → Contains (take 0 xs) y → ⊥
  none_taken [] y c = none_in y c
  none_taken (x ∷ xs) y c = none_in y c

  pub one_none : (xs : List A) (t : Table) → AddsPairs t t (ForOne R (take 0 xs))
  one_none xs t = adds_none t (ForOne R (take 0 xs)) (λ n k h. none_taken xs h.item h.among)

  pub one_more : (xs : List A) (i : ℕ) (d : A) (x y z : Table) → i < length xs → AddsPairs x y (ForOne R (take i xs)) →
      AddsPairs y z (R (get_or xs i d)) → AddsPairs x z (ForOne R (take (i + 1) xs))
  one_more xs i d x y z lt before here =
      adds_then x y z (ForOne R (take i xs)) (R new) (ForOne R (take (i + 1) xs)) before here
      (λ n k h. by n k h (Contains-append_cases (take i xs) (new ∷ []) h.item (subst (λ ys. Contains ys h.item) taken h.among)))
      (λ n k h. record { item = h.item; among = subst (λ ys. Contains ys h.item) (sym taken) (Contains-append_left (take i xs) (new ∷ []) h.item h.among); there = h.there })
      (λ n k h. record { item = new; among = subst (λ ys. Contains ys new) (sym taken) (Contains-append_right (take i xs) (new ∷ []) new (first_in new [])); there = h })
    where
      new : A
      new = get_or xs i d

      taken : take (i + 1) xs ≡ take i xs ++ new ∷ []
      taken = take_more xs i d lt

      by : (n k : ℕ) (h : ForOne R (take (i + 1) xs) n k) → Contains (take i xs) h.item ⊎ Contains (new ∷ []) h.item →
          ForOne R (take i xs) n k ⊎ R new n k
      by n k h (inl c) = inl (record { item = h.item; among = c; there = h.there })
      by n k h (inr c) =
          ⊎_elim (λ e. inr (subst (λ x. R x n k) (sym e) h.there)) (λ z. absurd (none_in h.item z)) (in_cons new h.item [] c)

  pub one_all : (xs : List A) (i : ℕ) (x y : Table) → length xs ≤ i → AddsPairs x y (ForOne R (take i xs)) → AddsPairs x y (ForOne R xs)
  one_all xs i x y le h = subst (λ ys. AddsPairs x y (ForOne R ys)) (take_all i xs le) h

-- ---- one pair

pub not_joined : (t : Table) (moved : Option Move) (number other : ℕ) → is_move_from_to moved other number ≡ true →
    AddsPairs t t (Meeting moved number other)
not_joined t moved number other e =
    adds_none t (Meeting moved number other)
    (λ n k h.
    let f : is_move_from_to moved other number ≡ false =
    subst (λ n. is_move_from_to moved other n ≡ false) (sym h.written) (subst (λ k. is_move_from_to moved k n ≡ false) (sym h.live) h.no_move) in
    cc)

-- with each of a list of members is with the set
pub with_set : (x y : Table) (moved : Option Move) (set : List Bool) (members : List ℕ) (number : ℕ) → AreMembers set members →
    AddsPairs x y (ForOne (Meeting moved number) members) → AddsPairs x y (MeetsSet moved set number)
with_set x y moved set members number are h =
    adds_same x y (ForOne (Meeting moved number) members) (MeetsSet moved set number) h
    (λ n k p. let t = p.there in record {
      written = t.written;
      live = (are.each k).0 (subst (Contains members) t.live p.among);
      no_move = t.no_move;
    })
    (λ n k p. record {
      item = k;
      among = (are.each k).1 p.live;
      there = record { written = p.written; live = refl; no_move = p.no_move };
    })

-- what bounds a set bounds the list of its members
pub members_small : (bound len : ℕ) (set : List Bool) (members lent : List ℕ) → AreMembers set members → lent ≡ members →
    ((k : ℕ) → has set k ≡ true → k < bound) → len ≡ bound → All (λ k. k < len) lent
members_small bound len set members lent are same below e =
    subst (λ b. All (λ k. k < b) lent) (sym e)
    (subst (λ ks. All (λ k. k < bound) ks) (sym same)
    (λ j d lt. below (get_or members j d) ((are.each (get_or members j d)).0 (Contains-get_or members j d lt))))

-- the same with the list as it was lent
pub with_lent : (x y : Table) (moved : Option Move) (set : List Bool) (members lent : List ℕ) (number : ℕ) → AreMembers set members →
    lent ≡ members → AddsPairs x y (ForOne (Meeting moved number) lent) → AddsPairs x y (MeetsSet moved set number)
with_lent x y moved set members lent number are same h =
    with_set x y moved set members number are (subst (λ ks. AddsPairs x y (ForOne (Meeting moved number) ks)) same h)

-- one place more where control goes on, with lists as they were lent
pub place_more : (moved : Option Move) (live : Table) (writes places : List ℕ) (lent_writes lent_places : List ℕ) (i : ℕ) (set : List Bool)
    (x y z : Table) → lent_writes ≡ writes → lent_places ≡ places → i < length lent_places → set ≡ set_in_row live (get_or lent_places i 0) →
    AddsPairs x y (MeetsPlaces moved live writes (take i places)) → AddsPairs y z (ForOne (MeetsSet moved set) lent_writes) →
    AddsPairs x z (MeetsPlaces moved live writes (take (i + 1) places))
place_more moved live writes places lent_writes lent_places i set x y z w p lt same before here =
    let le : length lent_places ≡ length places = ap length p in
    one_more (λ q. ForOne (MeetsSet moved (set_in_row live q)) writes) places i 0 x y z (omega (arith, lt, le)) before
    (subst (λ ns. AddsPairs y z (ForOne (MeetsSet moved (set_in_row live (get_or places i 0))) ns)) w
    (subst (λ s. AddsPairs y z (ForOne (MeetsSet moved s) lent_writes)) (same ∙ ap (λ ps. set_in_row live (get_or ps i 0)) p) here))
