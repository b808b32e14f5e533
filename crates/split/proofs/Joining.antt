-- Labels of writes, as they are joined.
use Rattle.std.proofs.Common.{◌≡◌, ℕ, zero, suc, ◌+◌, ◌<◌, ◌≤◌, Bool, true, false, cond, ◌⊎◌, inl, inr, ⊎_elim, List, [], ◌∷◌, ◌++◌, Option, Some, None, map, min, max, take, drop, length, refl, sym, ap, ◌∙◌, subst, arith}
use Rattle.std.proofs.lemmas.Bool.{cases_Bool, eq-eqb, eqb-true}
use Rattle.std.proofs.Math.Nat.{max-eq_left, max-eq_right, min-eq_left, min-eq_right}
use Rattle.std.proofs.Math.Seq.{drop-cons}
use Rattle.std.proofs.lemmas.List.{take_more, take_all}
use Rattle.std.proofs.lemmas.Option.{slice_get_within}
use Rattle.std.specs.List.{All, Contains}
use Rattle.std.specs.Prelude.{nat_eq, slice_get, slice_index, slice_index_or}
use Rattle.std.proofs.lemmas.List.Elements.{Contains-append_cases}
use Rattle.bs_bits.specs.Set.{has}
use Rattle.dataflow.specs.Rows.{set_in_row}
use Rattle.mach_ir.specs.Walks.{AmongRegisters, first, later, read}
use Rattle.mach_ir.specs.declared.reg.Reg.{Reg}
use Rattle.mach_ir.specs.declared.mach.Instr.{Instr}
use Rattle.mach_ir.specs.declared.mach.Mach.{Mach}
use Rattle.split_rules.specs.Writes.{WriteReaches, Chained, same, meets}
use Rattle.bs_words.proofs.Lists.{none_in, first_in, later_in, in_cons}
use Rattle.split.specs.Joins.{replaced_label, joined_labels, IsComingWrite, Relabelled, as_it_was, as_another, Joins, AreJoinedWrites, AreSound, HaveOne, AreWebs, AreIndexes, JoinsReads}
use Rattle.split.specs.Reach.{AreReaching}
use Rattle.split.specs.Writes.{listed_writes, writes_of_number, AreWrites, code_after}
use Rattle.split_rules.specs.declared.writes.Write.{Write}
use Rattle.split.specs.declared.writes.Writes.{Writes}
use Rattle.bs_words.proofs.Truths.{not_both}

-- ---- one label in the place of another

pub at_replaced : (f : ℕ → ℕ) (xs : List ℕ) (w : ℕ) → w < length xs → slice_index (map f xs) w ≡ f (slice_index xs w)
at_replaced f [] w lt = absurd (omega (arith, lt))
at_replaced f (x ∷ xs) zero lt = refl
at_replaced f (x ∷ xs) (suc w) lt = at_replaced f xs w (omega (arith, lt))

pub length_replaced : (f : ℕ → ℕ) (xs : List ℕ) → length (map f xs) ≡ length xs
length_replaced f [] = refl
length_replaced f (x ∷ xs) = ap suc (length_replaced f xs)

pub replaced_itself : (k : ℕ) (xs : List ℕ) → map (replaced_label k k) xs ≡ xs
replaced_itself k [] = refl
replaced_itself k (x ∷ xs) =
    ap (λ y. y ∷ map (replaced_label k k) xs) (one (nat_eq x k) refl) ∙ ap (λ ys. x ∷ ys) (replaced_itself k xs)
  where
    one : (b : Bool) → nat_eq x k ≡ b → cond b k x ≡ x
    one true e = sym (eqb-true x k e)
    one false e = refl

pub not_joined : (labels new : List ℕ) (one other : ℕ) → max one other ≡ min one other → new ≡ labels → new ≡ joined_labels labels one other
not_joined labels new one other e h =
    h ∙ sym (replaced_itself (min one other) labels) ∙ ap (λ k. map (replaced_label k (min one other)) labels) (sym e)

-- the label of one that had this label, and of one that had another
was_that : (from to label : ℕ) → label ≡ from → replaced_label from to label ≡ to
was_that from to label e = ap (λ b. cond b to label) (eq-eqb label from e)

was_other : (from to label : ℕ) → nat_eq label from ≡ false → replaced_label from to label ≡ label
was_other from to label e = ap (λ b. cond b to label) e

-- ---- those of some writes that come to a place

pub member_more : (ms : List ℕ) (k d w : ℕ) → k < length ms → Contains (take (k + 1) ms) w →
    Contains (take k ms) w ⊎ (slice_index_or ms k d ≡ w)
member_more ms k d w lt c =
    ⊎_elim (λ h. inl h) (λ h. ⊎_elim (λ e. inr e) (λ n. absurd (none_in w n)) (in_cons (slice_index_or ms k d) w [] h))
    (Contains-append_cases (take k ms) (slice_index_or ms k d ∷ []) w (subst (λ xs. Contains xs w) (take_more ms k d lt) c))

pub record Joining (old now writes_of_number : List ℕ) (k : ℕ) (rows : List (List Bool)) (p : ℕ) (found : Option ℕ) :
    Type 0 where
  pub len : length now ≡ length old
  pub less : (w : ℕ) → w < length old → slice_index now w ≤ slice_index old w
  pub keeps : (w v : ℕ) → w < length old → v < length old → slice_index old w ≡ slice_index old v →
      slice_index now w ≡ slice_index now v
  pub none : found ≡ None → (w : ℕ) → Contains (take k writes_of_number) w → has (set_in_row rows p) w ≡ true → ⊥
  pub some : (f : ℕ) → found ≡ Some f → IsComingWrite writes_of_number rows p f
      × ((w : ℕ) → Contains (take k writes_of_number) w → has (set_in_row rows p) w ≡ true → slice_index now w ≡ slice_index now f)
  pub from : (w : ℕ) → w < length old → Relabelled old now writes_of_number rows p w

either : (a b : ℕ) → (a ≤ b) ⊎ (b ≤ a)
either zero b = inl (omega arith)
either (suc a) zero = inr (omega arith)
either (suc a) (suc b) = ⊎_elim (λ le. inl (omega (arith, le))) (λ le. inr (omega (arith, le))) (either a b)

no_some : (f : ℕ) → None ≡ Some f → ⊥
no_some f e = cc

some_none : (f : ℕ) → Some f ≡ None → ⊥
some_none f e = cc

some_is : (f g : ℕ) → Some f ≡ Some g → f ≡ g
some_is f g e = cc

no_members : (ms : List ℕ) (w : ℕ) → Contains (take 0 ms) w → ⊥
no_members [] w c = none_in w c
no_members (m ∷ ms) w c = none_in w c

module _ (writes_of_number : List ℕ) (rows : List (List Bool)) (p : ℕ) where
  pub joining_begun : (labels : List ℕ) → Joining labels labels writes_of_number 0 rows p None
  joining_begun labels =
      record {
        len = refl;
        less = λ w lt. omega arith;
        keeps = λ w v a b e. e;
        none = λ e w c h. no_members writes_of_number w c;
        some = λ f e. absurd (no_some f e);
        from = λ w lt. as_it_was refl;
      }

  module _ (old now : List ℕ) (k : ℕ) (lt : k < length writes_of_number) (d w : ℕ) (at : slice_index_or writes_of_number k d ≡ w) where
    member : Contains writes_of_number w
    member = subst (Contains writes_of_number) at (in_list writes_of_number k d lt)
      where
        in_list : (xs : List ℕ) (k d : ℕ) → k < length xs → Contains xs (slice_index_or xs k d)
        in_list [] k d lt = absurd (omega (arith, lt))
        in_list (x ∷ xs) zero d lt = first_in x xs
        in_list (x ∷ xs) (suc k) d lt = later_in x (slice_index_or xs k d) xs (in_list xs k d (omega (arith, lt)))

    -- the last of those that have been gone over
    last_or : (v : ℕ) → Contains (take (k + 1) writes_of_number) v → Contains (take k writes_of_number) v ⊎ (w ≡ v)
    last_or v c = ⊎_elim (λ h. inl h) (λ e. inr (sym at ∙ e)) (member_more writes_of_number k d v lt c)

    pub joining_passed : (found : Option ℕ) → has (set_in_row rows p) w ≡ false → Joining old now writes_of_number k rows p found →
        Joining old now writes_of_number (k + 1) rows p found
    joining_passed found out j =
        record {
          len = j.len;
          less = j.less;
          keeps = j.keeps;
          none = λ e v c h.
              ⊎_elim (λ z. j.none e v z h)
              (λ s. not_both (has (set_in_row rows p) w) (ap (has (set_in_row rows p)) s ∙ h) out) (last_or v c);
          some = λ f e.
              let s = j.some f e in (
                s.0,
                λ v c h.
                    ⊎_elim (λ z. s.1 v z h)
                    (λ z. absurd (not_both (has (set_in_row rows p) w) (ap (has (set_in_row rows p)) z ∙ h) out)) (last_or v c),
              );
          from = j.from;
        }

    pub joining_first : has (set_in_row rows p) w ≡ true → Joining old now writes_of_number k rows p None →
        Joining old now writes_of_number (k + 1) rows p (Some w)
    joining_first comes j =
        record {
          len = j.len;
          less = j.less;
          keeps = j.keeps;
          none = λ e. absurd (some_none w e);
          some = λ f e.
              let same : w ≡ f = some_is w f e in (
                subst (IsComingWrite writes_of_number rows p) same (record { member = member; comes = comes }),
                λ v c h.
                    ⊎_elim (λ z. absurd (j.none refl v z h))
                    (λ z. ap (slice_index now) (sym z ∙ same)) (last_or v c),
              );
          from = j.from;
        }

    -- the label of the one comes in the place of the other's, which is not less
    pub joining_joined : (new : List ℕ) (one low high : ℕ) → has (set_in_row rows p) w ≡ true → ((v : ℕ) → Contains writes_of_number v → v < length now) →
        ((low ≡ one) × (high ≡ w)) ⊎ ((low ≡ w) × (high ≡ one)) → slice_index now low ≤ slice_index now high →
        new ≡ map (replaced_label (slice_index now high) (slice_index now low)) now →
        Joining old now writes_of_number k rows p (Some one) → Joining old new writes_of_number (k + 1) rows p (Some one)
    joining_joined new one low high comes within pair le made j =
        record {
          len = ap length made ∙ length_replaced f now ∙ j.len;
          less = λ v lt. fallen v lt;
          keeps = λ a b x y e. alike a b (under a x) (under b y) (j.keeps a b x y e);
          none = λ e. absurd (some_none one e);
          some = λ g e.
              let eq : one ≡ g = some_is one g e in (
                subst (IsComingWrite writes_of_number rows p) eq here.0,
                λ v c h.
                    subst (λ g. slice_index new v ≡ slice_index new g) eq
                    (⊎_elim (λ z. alike v one (within v (in_whole v c)) (within one here.0.member) (here.1 v z h))
                    (λ z. ap (slice_index new) (sym z) ∙ together)
                    (last_or v c)),
              );
          from = λ v lt.
              ⊎_elim (λ e. moved v lt (eqb-true (slice_index now v) (slice_index now high) e))
              (λ e.
              again v (made_at v (under v lt) ∙ was_other (slice_index now high) (slice_index now low) (slice_index now v) e)
              (j.from v lt))
              (cases_Bool (nat_eq (slice_index now v) (slice_index now high)));
        }
      where
        f : ℕ → ℕ
        f = replaced_label (slice_index now high) (slice_index now low)

        here : IsComingWrite writes_of_number rows p one
            × ((v : ℕ) → Contains (take k writes_of_number) v → has (set_in_row rows p) v ≡ true → slice_index now v ≡ slice_index now one)
        here = j.some one refl

        coming : IsComingWrite writes_of_number rows p w
        coming = record { member = member; comes = comes }

        low_comes : IsComingWrite writes_of_number rows p low
        low_comes =
            ⊎_elim (λ e. subst (IsComingWrite writes_of_number rows p) (sym e.0) here.0) (λ e. subst (IsComingWrite writes_of_number rows p) (sym e.0) coming) pair

        high_comes : IsComingWrite writes_of_number rows p high
        high_comes =
            ⊎_elim (λ e. subst (IsComingWrite writes_of_number rows p) (sym e.1) coming) (λ e. subst (IsComingWrite writes_of_number rows p) (sym e.1) here.0) pair

        under : (v : ℕ) → v < length old → v < length now
        under v lt = let len = j.len in omega (arith, lt, len)

        back : (v : ℕ) → v < length now → v < length old
        back v lt = let len = j.len in omega (arith, lt, len)

        made_at : (v : ℕ) → v < length now → slice_index new v ≡ f (slice_index now v)
        made_at v lt = ap (λ xs. slice_index xs v) made ∙ at_replaced f now v lt

        alike : (a b : ℕ) → a < length now → b < length now → slice_index now a ≡ slice_index now b → slice_index new a ≡ slice_index new b
        alike a b x y e = made_at a x ∙ ap f e ∙ sym (made_at b y)

        in_whole : (v : ℕ) → Contains (take (k + 1) writes_of_number) v → Contains writes_of_number v
        in_whole v c = ⊎_elim (λ z. in_taken writes_of_number k v z) (λ e. subst (Contains writes_of_number) e member) (last_or v c)
          where
            in_taken : (xs : List ℕ) (k v : ℕ) → Contains (take k xs) v → Contains xs v
            in_taken [] zero v c = absurd (none_in v c)
            in_taken [] (suc k) v c = absurd (none_in v c)
            in_taken (x ∷ xs) zero v c = absurd (none_in v c)
            in_taken (x ∷ xs) (suc k) v c =
                ⊎_elim (λ e. subst (Contains (x ∷ xs)) e (first_in x xs)) (λ h. later_in x v xs (in_taken xs k v h))
                (in_cons x v (take k xs) c)

        -- what had the lower label keeps it, and what had the other has it now
        low_stays : slice_index new low ≡ slice_index now low
        low_stays = made_at low (within low low_comes.member) ∙ itself (nat_eq (slice_index now low) (slice_index now high))
          where
            itself : (b : Bool) → cond b (slice_index now low) (slice_index now low) ≡ slice_index now low
            itself true = refl
            itself false = refl

        to_low : (v : ℕ) → v < length now → slice_index now v ≡ slice_index now high → slice_index new v ≡ slice_index now low
        to_low v lt e = made_at v lt ∙ was_that (slice_index now high) (slice_index now low) (slice_index now v) e

        low_high : slice_index new low ≡ slice_index new high
        low_high = low_stays ∙ sym (to_low high (within high high_comes.member) refl)

        together : slice_index new w ≡ slice_index new one
        together =
            ⊎_elim (λ e. ap (slice_index new) (sym e.1) ∙ sym low_high ∙ ap (slice_index new) e.0)
            (λ e. ap (slice_index new) (sym e.0) ∙ low_high ∙ ap (slice_index new) e.1) pair

        fallen : (v : ℕ) → v < length old → slice_index new v ≤ slice_index old v
        fallen v lt =
            ⊎_elim
            (λ e.
            let same : slice_index now v ≡ slice_index now high = eqb-true (slice_index now v) (slice_index now high) e in
            let moved = to_low v (under v lt) same in
            let was = j.less v lt in omega (arith, le, same, moved, was))
            (λ e.
            let stays = made_at v (under v lt) ∙ was_other (slice_index now high) (slice_index now low) (slice_index now v) e in
            let was = j.less v lt in omega (arith, stays, was))
            (cases_Bool (nat_eq (slice_index now v) (slice_index now high)))

        again : (v : ℕ) → slice_index new v ≡ slice_index now v → Relabelled old now writes_of_number rows p v →
            Relabelled old new writes_of_number rows p v
        again v e (as_it_was h) = as_it_was (e ∙ h)
        again v e (as_another a b x y g h) = as_another a b x y g (e ∙ h)

        -- whose the lower label was before
        origin : (u : ℕ) × IsComingWrite writes_of_number rows p u × (slice_index now low ≡ slice_index old u)
        origin = whose (j.from low (back low (within low low_comes.member)))
          where
            whose : Relabelled old now writes_of_number rows p low → (u : ℕ) × IsComingWrite writes_of_number rows p u × (slice_index now low ≡ slice_index old u)
            whose (as_it_was h) = (low, low_comes, h)
            whose (as_another a b x y g h) = (b, y, h)

        moved : (v : ℕ) → v < length old → slice_index now v ≡ slice_index now high → Relabelled old new writes_of_number rows p v
        moved v lt e = by (j.from v lt) (j.from high (back high (within high high_comes.member)))
          where
            label : slice_index new v ≡ slice_index old origin.0
            label = to_low v (under v lt) e ∙ origin.2

            by : Relabelled old now writes_of_number rows p v → Relabelled old now writes_of_number rows p high → Relabelled old new writes_of_number rows p v
            by (as_another a b x y g h) z = as_another a origin.0 x origin.1 g label
            by (as_it_was h) (as_it_was g) = as_another high origin.0 high_comes origin.1 (sym h ∙ e ∙ g) label
            by (as_it_was h) (as_another a b x y g i) = as_another b origin.0 y origin.1 (sym h ∙ e ∙ i) label

  pub joining_done : (old now : List ℕ) (k : ℕ) (found : Option ℕ) → length writes_of_number ≤ k → Joining old now writes_of_number k rows p found →
      Joins old now writes_of_number rows p
  joining_done old now k found le j =
      record {
        len = j.len;
        less = j.less;
        same = j.keeps;
        together = λ w v a b. by found (λ e. j.none e) (λ f e. j.some f e) w v a b;
        from = j.from;
      }
    where
      whole : (w : ℕ) → Contains writes_of_number w → Contains (take k writes_of_number) w
      whole w c = subst (λ xs. Contains xs w) (sym (take_all k writes_of_number le)) c

      by : (o : Option ℕ) → (o ≡ None → (w : ℕ) → Contains (take k writes_of_number) w → has (set_in_row rows p) w ≡ true → ⊥) →
          ((f : ℕ) → o ≡ Some f → IsComingWrite writes_of_number rows p f
          × ((w : ℕ) → Contains (take k writes_of_number) w → has (set_in_row rows p) w ≡ true → slice_index now w ≡ slice_index now f)) →
          (w v : ℕ) → IsComingWrite writes_of_number rows p w → IsComingWrite writes_of_number rows p v → slice_index now w ≡ slice_index now v
      by None none some w v a b = absurd (none refl w (whole w a.member) a.comes)
      by (Some f) none some w v a b =
          let s = some f refl in s.1 w (whole w a.member) a.comes ∙ sym (s.1 v (whole v b.member) b.comes)

-- ---- the steps of the loop

module _ (old now : List ℕ) (ms : List ℕ) (rows : List (List Bool)) (p k : ℕ) (found : Option ℕ) (j : Joining old now ms k rows p found) where
  pub found_within : (one : ℕ) → found ≡ Some one → All (λ w. w < length old) ms → one < length now
  found_within one e below =
      let c = (j.some one e).0.member in
      let lt : one < length old = subst (λ w. w < length old) c.2 (below c.0 one c.1) in
      let len = j.len in omega (arith, lt, len)

  module _ (lt : k < length ms) (d : ℕ) (now' : List ℕ) (found' : Option ℕ) where
    pub step_passed : has (set_in_row rows p) (slice_index_or ms k d) ≡ false → now' ≡ now → found' ≡ found →
        Joining old now' ms (k + 1) rows p found'
    step_passed out e h =
        subst (λ xs. Joining old xs ms (k + 1) rows p found') (sym e)
        (subst (Joining old now ms (k + 1) rows p) (sym h)
        (joining_passed ms rows p old now k lt d (slice_index_or ms k d) refl found out j))

    pub step_first : has (set_in_row rows p) (slice_index_or ms k d) ≡ true → found ≡ None → now' ≡ now →
        found' ≡ Some (slice_index_or ms k d) → Joining old now' ms (k + 1) rows p found'
    step_first comes none e h =
        subst (λ xs. Joining old xs ms (k + 1) rows p found') (sym e)
        (subst (Joining old now ms (k + 1) rows p) (sym h)
        (joining_first ms rows p old now k lt d (slice_index_or ms k d) refl comes
        (subst (Joining old now ms k rows p) none j)))

    pub step_joined : has (set_in_row rows p) (slice_index_or ms k d) ≡ true → (one : ℕ) → found ≡ Some one →
        All (λ w. w < length old) ms →
        now' ≡ joined_labels now (slice_index now one) (slice_index now (slice_index_or ms k d)) → found' ≡ found →
        Joining old now' ms (k + 1) rows p found'
    step_joined comes one some below e h =
        subst (Joining old now' ms (k + 1) rows p) (sym (h ∙ some))
        (⊎_elim
        (λ le.
        joining_joined ms rows p old now k lt d w refl now' one one w comes within (inl (refl, refl)) le
        (e ∙ ap (λ k. map (replaced_label k (min a b)) now) (max-eq_right le) ∙ ap (λ k. map (replaced_label b k) now) (min-eq_left le)) before)
        (λ le.
        joining_joined ms rows p old now k lt d w refl now' one w one comes within (inr (refl, refl)) le
        (e ∙ ap (λ k. map (replaced_label k (min a b)) now) (max-eq_left le) ∙ ap (λ k. map (replaced_label a k) now) (min-eq_right le)) before)
        (either a b))
      where
        w : ℕ
        w = slice_index_or ms k d

        a : ℕ
        a = slice_index now one

        b : ℕ
        b = slice_index now w

        before : Joining old now ms k rows p (Some one)
        before = subst (Joining old now ms k rows p) some j

        within : (v : ℕ) → Contains ms v → v < length now
        within v c =
            let lt : v < length old = subst (λ w. w < length old) c.2 (below c.0 v c.1) in
            let len = j.len in omega (arith, lt, len)

pub indexes_all : (t : Writes) (n : ℕ) (ms old now : List ℕ) → ms ≡ writes_of_number t n → AreIndexes t (length old) → length now ≡ length old →
    All (λ w. w < length now) ms
indexes_all t n ms old now e below len = λ k d lt.
    let c : Contains (writes_of_number t n) (slice_index_or ms k d) =
    subst (λ xs. Contains xs (slice_index_or ms k d)) e (in_list ms k d lt) in
    let w = below.below n (slice_index_or ms k d) c in less (slice_index_or ms k d) w
  where
    less : (x : ℕ) → x < length old → x < length now
    less x h = omega (arith, h, len)

    in_list : (xs : List ℕ) (k d : ℕ) → k < length xs → Contains xs (slice_index_or xs k d)
    in_list [] k d lt = absurd (omega (arith, lt))
    in_list (x ∷ xs) zero d lt = first_in x xs
    in_list (x ∷ xs) (suc k) d lt = later_in x (slice_index_or xs k d) xs (in_list xs k d (omega (arith, lt)))

-- ---- what is joined is linked

module _ (m : Mach) (t : Writes) where
  chain_back : {n : ℕ} (x y : List Instr) → Chained m n x y → (z : List Instr) → Chained m n x z → Chained m n y z
  chain_back x y same z h = h
  chain_back x y (meets v a b c) z h = chain_back _ y c z (meets v b a h)

  pub chain_on : {n : ℕ} {x y z : List Instr} → Chained m n x y → Chained m n y z → Chained m n x z
  chain_on same h = h
  chain_on (meets v a b c) h = meets v a b (chain_on c h)

  pub chain_turned : {n : ℕ} {x y : List Instr} → Chained m n x y → Chained m n y x
  chain_turned {x = x} {y = y} h = chain_back x y h x same

  write_is : (x y : Write) → Some x ≡ Some y → x ≡ y
  write_is x y e = cc

  pub link_turned : {w v : ℕ} → AreJoinedWrites m t w v → AreJoinedWrites m t v w
  link_turned l =
      record {
        one = l.other;
        other = l.one;
        is_one = l.is_other;
        is_other = l.is_one;
        number = sym l.number;
        chained = subst (λ n. Chained m n (code_after m (l.other).left) (code_after m (l.one).left)) l.number (chain_turned l.chained);
      }

  pub link_on : {w v u : ℕ} → AreJoinedWrites m t w v → AreJoinedWrites m t v u → AreJoinedWrites m t w u
  link_on l k =
      let e : l.other ≡ k.one = write_is l.other k.one (sym l.is_other ∙ k.is_one) in
      let number : l.other.number ≡ k.one.number = ap (λ (x : Write). x.number) e in
      record {
        one = l.one;
        other = k.other;
        is_one = l.is_one;
        is_other = k.is_other;
        number = l.number ∙ number ∙ k.number;
        chained = chain_on l.chained
            (subst (λ n. Chained m n (code_after m (l.other).left) (code_after m (k.other).left)) (sym (l.number ∙ number))
            (subst (λ (x : Write). Chained m (k.one).number (code_after m x.left) (code_after m (k.other).left)) (sym e) k.chained));
      }

  pub link_itself : (w : ℕ) → w < length (listed_writes t) → AreJoinedWrites m t w w
  link_itself w lt =
      let x = there (listed_writes t) w lt in
      record { one = x.0; other = x.0; is_one = x.1; is_other = x.1; number = refl; chained = same }
    where
      there : (xs : List Write) (w : ℕ) → w < length xs → (x : Write) × (slice_get xs w ≡ Some x)
      there [] w lt = absurd (omega (arith, lt))
      there (x ∷ xs) zero lt = (x, refl)
      there (x ∷ xs) (suc w) lt = there xs w (omega (arith, lt))

  -- joining writes that are linked keeps labels sound
  pub sound_joined : (rows : List (List Bool)) (p : ℕ) (old new ms : List ℕ) → ((w : ℕ) → Contains ms w → w < length old) →
      Joins old new ms rows p → AreSound m t old →
      ((w v : ℕ) → IsComingWrite ms rows p w → IsComingWrite ms rows p v → AreJoinedWrites m t w v) → AreSound m t new
  sound_joined rows p old new ms below j s linked =
      record {
        len = j.len ∙ s.len;
        linked = λ w lt. by w (before w lt) (j.from w (before w lt));
      }
    where
      before : (w : ℕ) → w < length new → w < length old
      before w lt = let len = j.len in omega (arith, lt, len)

      by : (w : ℕ) → w < length old → Relabelled old new ms rows p w → AreJoinedWrites m t w (slice_index new w)
      by w lt (as_it_was e) = subst (AreJoinedWrites m t w) (sym e) (s.linked w lt)
      by w lt (as_another u v a b e h) =
          subst (AreJoinedWrites m t w) (sym h)
          (link_on (subst (AreJoinedWrites m t w) e (s.linked w lt))
          (link_on (link_turned (s.linked u (below u a.member))) (link_on (linked u v a b) (s.linked v (below v b.member)))))

-- ---- operands

module _ (t : Writes) (rows : List (List Bool)) (p : ℕ) where
  pub reads_begun : (labels : List ℕ) (args : List Reg) → JoinsReads labels labels t rows p (take 0 args)
  reads_begun labels args =
      record {
        len = refl;
        less = λ w lt. omega arith;
        same = λ w v a b e. e;
        one = λ n a. absurd (none args n a);
        sound = λ m s linked. s;
      }
    where
      none : (args : List Reg) (n : ℕ) → AmongRegisters n (take 0 args) → ⊥
      none [] n a = elim a [ ]
      none (r ∷ rs) n a = elim a [ ]

  pub reads_more : (old now new : List ℕ) (args : List Reg) (k : ℕ) (d : Reg) (ms : List ℕ) → k < length args →
      ms ≡ writes_of_number t (slice_index_or args k d).number → AreIndexes t (length old) → Joins now new ms rows p →
      JoinsReads old now t rows p (take k args) → JoinsReads old new t rows p (take (k + 1) args)
  reads_more old now new args k d ms lt same_members below joins before =
      record {
        len = j.len ∙ before.len;
        less = λ w lt.
            let now_less = j.less w (now_under w lt) in let was_less = before.less w lt in omega (arith, now_less, was_less);
        same = λ w v a b e. j.same w v (now_under w a) (now_under v b) (before.same w v a b e);
        one = λ n a.
            ⊎_elim
            (λ h.
            let old_one = before.one n h in
            record { one = λ w v x y. j.same w v (now_under w (below.below n w x.member)) (now_under v (below.below n v y.member)) (old_one.one w v x y) })
            (λ e. subst (HaveOne t rows new p) e (record { one = j.together }))
            (among_more n a);
        sound = λ m s linked.
            sound_joined m t rows p now new (writes_of_number t r.number) (λ w c. now_under w (below.below r.number w c)) j
            (before.sound m s (λ n w v a x y. linked n w v (earlier n a) x y)) (λ w v x y. linked r.number w v last x y);
      }
    where
      r : Reg
      r = slice_index_or args k d

      j : Joins now new (writes_of_number t r.number) rows p
      j = subst (λ ms. Joins now new ms rows p) same_members joins

      now_under : (w : ℕ) → w < length old → w < length now
      now_under w lt = let len = before.len in omega (arith, lt, len)

      taken : take (k + 1) args ≡ take k args ++ r ∷ []
      taken = take_more args k d lt

      among_split : (n : ℕ) (rs qs : List Reg) → AmongRegisters n (rs ++ qs) → AmongRegisters n rs ⊎ AmongRegisters n qs
      among_split n [] qs a = inr a
      among_split n (r ∷ rs) qs (first e) = inl (first e)
      among_split n (r ∷ rs) qs (later a) = ⊎_elim (λ h. inl (later h)) inr (among_split n rs qs a)

      among_left : (n : ℕ) (rs qs : List Reg) → AmongRegisters n rs → AmongRegisters n (rs ++ qs)
      among_left n [] qs a = elim a [ ]
      among_left n (r ∷ rs) qs (first e) = first e
      among_left n (r ∷ rs) qs (later a) = later (among_left n rs qs a)

      among_right : (n : ℕ) (rs qs : List Reg) → AmongRegisters n qs → AmongRegisters n (rs ++ qs)
      among_right n [] qs a = a
      among_right n (r ∷ rs) qs a = later (among_right n rs qs a)

      number_of_one : (n : ℕ) → AmongRegisters n (r ∷ []) → r.number ≡ n
      number_of_one n (first e) = e
      number_of_one n (later a) = elim a [ ]

      among_more : (n : ℕ) → AmongRegisters n (take (k + 1) args) → AmongRegisters n (take k args) ⊎ (r.number ≡ n)
      among_more n a =
          ⊎_elim inl (λ h. inr (number_of_one n h)) (among_split n (take k args) (r ∷ []) (subst (AmongRegisters n) taken a))

      earlier : (n : ℕ) → AmongRegisters n (take k args) → AmongRegisters n (take (k + 1) args)
      earlier n a = subst (AmongRegisters n) (sym taken) (among_left n (take k args) (r ∷ []) a)

      last : AmongRegisters r.number (take (k + 1) args)
      last = subst (AmongRegisters r.number) (sym taken) (among_right r.number (take k args) (r ∷ []) (first refl))

  pub reads_done : (old new : List ℕ) (args : List Reg) (k : ℕ) → length args ≤ k → JoinsReads old new t rows p (take k args) →
      JoinsReads old new t rows p args
  reads_done old new args k le j = subst (JoinsReads old new t rows p) (take_all k args le) j

-- ---- places

pub record WebsBefore (m : Mach) (t : Writes) (rows : List (List Bool)) (labels : List ℕ) (place : ℕ) : Type 0 where
  pub sound : AreSound m t labels
  pub least : (w : ℕ) → w < length labels → slice_index labels w ≤ w
  pub one : (p : ℕ) (i : Instr) (next : List Instr) (n : ℕ) → p < place → drop p m.code ≡ i ∷ next → AmongRegisters n i.args →
      HaveOne t rows labels p n

-- labels that only fall stay below
pub still_least : (old new : List ℕ) → length new ≡ length old → ((w : ℕ) → w < length old → slice_index new w ≤ slice_index old w) →
    ((w : ℕ) → w < length old → slice_index old w ≤ w) → (w : ℕ) → w < length new → slice_index new w ≤ w
still_least old new len less least w lt =
    let old_lt : w < length old = omega (arith, lt, len) in
    let fallen = less w old_lt in let was = least w old_lt in omega (arith, fallen, was)

pub indexes : (m : Mach) (free : ℕ) (t : Writes) (labels : List ℕ) → AreWrites m free t → length labels ≡ length (listed_writes t) →
    AreIndexes t (length labels)
indexes m free t labels writes len =
    record {
      below = λ n w c.
          let x = (writes.grouped).sound n w c in
          let lt : w < length (listed_writes t) = slice_get_within (listed_writes t) w x.0 x.1 in
          omega (arith, lt, len);
    }

-- the instruction at a place
pub at_index : (m : Mach) (code : List Instr) (place : ℕ) (i : Instr) → code ≡ m.code → place < length code →
    i ≡ slice_index_or code place i → drop place m.code ≡ i ∷ drop (suc place) m.code
at_index m code place i e lt at =
    sym (ap (drop place) e) ∙ drop-cons code place i lt ∙ ap (λ x. x ∷ drop (suc place) code) (sym at)
    ∙ ap (λ xs. i ∷ drop (suc place) xs) e

module _ (m : Mach) (free : ℕ) (t : Writes) (rows : List (List Bool)) (writes : AreWrites m free t)
    (reach : AreReaching m t rows) where
  write_same : (x y : Write) → Some x ≡ Some y → x ≡ y
  write_same x y e = cc

  -- writes of an operand that come to its instruction are joined
  coming_linked : (p : ℕ) (i : Instr) (next : List Instr) (n w v : ℕ) → p ≤ length m.code → drop p m.code ≡ i ∷ next → AmongRegisters n i.args →
      IsComingWrite (writes_of_number t n) rows p w → IsComingWrite (writes_of_number t n) rows p v → AreJoinedWrites m t w v
  coming_linked p i next n w v le at a x y =
      let u = reach.sound p w le x.comes in
      let z = reach.sound p v le y.comes in
      let one = (writes.grouped).sound n w x.member in
      let two = (writes.grouped).sound n v y.member in
      let un : u.0.number ≡ n = ap (λ (x : Write). x.number) (write_same u.0 one.0 (sym u.1 ∙ one.1)) ∙ one.2 in
      let zn : z.0.number ≡ n = ap (λ (x : Write). x.number) (write_same z.0 two.0 (sym z.1 ∙ two.1)) ∙ two.2 in
      let cu : WriteReaches m n (code_after m u.0.left) (i ∷ next) =
      subst (WriteReaches m n (code_after m u.0.left)) at (subst (λ n. WriteReaches m n (code_after m u.0.left) (drop p m.code)) un u.2) in
      let cz : WriteReaches m n (code_after m z.0.left) (i ∷ next) =
      subst (WriteReaches m n (code_after m z.0.left)) at (subst (λ n. WriteReaches m n (code_after m z.0.left) (drop p m.code)) zn z.2) in
      record {
        one = u.0;
        other = z.0;
        is_one = u.1;
        is_other = z.1;
        number = un ∙ sym zn;
        chained = subst (λ n. Chained m n (code_after m u.0.left) (code_after m z.0.left)) (sym un) (meets (read a) cu cz same);
      }

  pub webs_begun : (labels : List ℕ) → length labels ≡ length (listed_writes t) → ((w : ℕ) → w < length labels → slice_index labels w ≡ w) →
      WebsBefore m t rows labels 0
  webs_begun labels len own =
      record {
        sound = record {
          len = len;
          linked = λ w lt. subst (AreJoinedWrites m t w) (sym (own w lt)) (link_itself m t w (omega (arith, lt, len)));
        };
        least = λ w lt. let e = own w lt in omega (arith, e);
        one = λ p i next n lt. absurd (omega (arith, lt));
      }

  pub webs_more : (old new : List ℕ) (place : ℕ) (i : Instr) (next : List Instr) → place < length m.code → drop place m.code ≡ i ∷ next →
      WebsBefore m t rows old place → JoinsReads old new t rows place i.args → WebsBefore m t rows new (place + 1)
  webs_more old new place i next lt at before j =
      record {
        sound = j.sound m before.sound (λ n w v a x y. coming_linked place i next n w v (omega (arith, lt)) at a x y);
        least = λ w lt.
            let old_lt : w < length old = let len = j.len in omega (arith, lt, len) in
            let fallen = j.less w old_lt in let was = before.least w old_lt in omega (arith, fallen, was);
        one = λ p k rest n le there a.
            ⊎_elim
            (λ less.
            let was = before.one p k rest n less there a in
            record { one = λ w v x y. j.same w v (below.below n w x.member) (below.below n v y.member) (was.one w v x y) })
            (λ e.
            let same_code : i ∷ next ≡ k ∷ rest = sym at ∙ ap (λ p. drop p m.code) (sym e) ∙ there in
            subst (λ p. HaveOne t rows new p n) (sym e) (j.one n (subst (λ (i : Instr). AmongRegisters n i.args) (sym (head i k next rest same_code)) a)))
            (less_or p place le);
      }
    where
      below : AreIndexes t (length old)
      below = indexes m free t old writes (before.sound).len

      head : (i k : Instr) (xs ys : List Instr) → i ∷ xs ≡ k ∷ ys → i ≡ k
      head i k xs ys e = cc

      less_or : (p k : ℕ) → p < k + 1 → (p < k) ⊎ (p ≡ k)
      less_or p k le = by (cases_Bool (nat_eq p k))
        where
          by : (nat_eq p k ≡ true) ⊎ (nat_eq p k ≡ false) → (p < k) ⊎ (p ≡ k)
          by (inl e) = inr (eqb-true p k e)
          by (inr e) = inl (smaller (λ s. not_both (nat_eq p k) (eq-eqb p k s) e))
            where
              smaller : (p ≡ k → ⊥) → p < k
              smaller h = omega (arith, le, h)

  pub webs_done : (labels : List ℕ) (place : ℕ) → length m.code ≤ place → WebsBefore m t rows labels place → AreWebs m t rows labels
  webs_done labels place le w =
      record {
        sound = w.sound;
        least = w.least;
        one = λ p i next n at a. w.one p i next n (under p i next at) at a;
      }
    where
      under : (p : ℕ) (i : Instr) (next : List Instr) → drop p m.code ≡ i ∷ next → p < place
      under p i next at = let lt = inside m.code p i next at in omega (arith, lt, le)
        where
          inside : (xs : List Instr) (p : ℕ) (i : Instr) (next : List Instr) → drop p xs ≡ i ∷ next → p < length xs
          inside [] zero i next e = absurd (no_cons i next e)
            where
              no_cons : (i : Instr) (next : List Instr) → [] ≡ i ∷ next → ⊥
              no_cons i next e = cc
          inside [] (suc p) i next e = absurd (no_cons i next e)
            where
              no_cons : (i : Instr) (next : List Instr) → [] ≡ i ∷ next → ⊥
              no_cons i next e = cc
          inside (x ∷ xs) zero i next e = omega arith
          inside (x ∷ xs) (suc p) i next e = let lt = inside xs p i next e in omega (arith, lt)
