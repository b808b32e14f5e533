-- Tables by rising numbers, as they are filled.
use Rattle.std.proofs.Common.{◌≡◌, ◌≢◌, ℕ, zero, suc, ◌+◌, ◌-◌, ◌<◌, ◌≤◌, ◌⊎◌, inl, inr, ⊎_elim, Bool, cond, List, [], ◌∷◌, ◌++◌, Option, Some, None, length, take, get_or, set, length-append, refl, sym, ap, ◌∙◌, subst, arith}
use Rattle.std.proofs.Math.ListN.{replicate, length-replicate}
use Rattle.std.proofs.Math.Seq.{get_or-append_seam}
use Rattle.std.specs.List.{All, AllPairs, Contains}
use Rattle.std.proofs.lemmas.Bool.{cases_eq, eq-eqb, ne_eqb}
use Rattle.std.proofs.lemmas.List.{get_or-set_same, get_or-set_other, take_more, take_all}
use Rattle.std.proofs.lemmas.List.Elements.{Contains-get_or, Contains-append_left, Contains-append_right, Contains-append_cases}
use Rattle.bs_words.specs.declared.types.Loc.{Loc}
use Rattle.bs_words.specs.declared.types.Loc.TheVariants as loc
use Rattle.bs_words.proofs.Lists.{none_in, first_in, later_in, in_cons}
use Rattle.mach_ir.specs.declared.graph.Graph.{Graph}
use Rattle.mach_ir.specs.declared.graph.Node.{Node}
use Rattle.colouring.specs.Chosen.{colouring_with, fixed, node_at, location_of_node}
use Rattle.colouring.specs.Tables.{places_by}
use Rattle.colouring.proofs.Found.{found_at, missing}
use Rattle.linscan_rules.specs.declared.interval.Interval.{Interval}
use Rattle.linscan.specs.Order.{HasIntervals}
use Rattle.linscan.specs.Seen.{RangeTable, range_at}
use Rattle.linscan.specs.declared.ranges.Range.{Range}

-- the table has the values of the first items at their keys, and nothing else
pub record IsFilled {A V : Type 0} (key : A → ℕ) (value : A → V) (d : V) (items : List A) (i : ℕ) (table : List V) : Type 0 where
  pub hit : (x : A) → Contains (take i items) x → get_or table (key x) d ≡ value x
  pub miss : (n : ℕ) → ((x : A) → Contains (take i items) x → key x ≡ n → ⊥) → get_or table n d ≡ d
  pub below : (x : A) → Contains (take i items) x → key x < length table
  pub next : (k : ℕ) (e : A) → i ≤ k → k < length items → length table ≤ key (get_or items k e)

none_taken : {A : Type 0} (xs : List A) (x : A) → Contains (take 0 xs) x → ⊥
none_taken [] x c = none_in x c
none_taken (y ∷ ys) x c = none_in x c

pub none_filled : {A V : Type 0} (key : A → ℕ) (value : A → V) (d : V) (items : List A) (table : List V) → table ≡ [] →
    IsFilled key value d items 0 table
none_filled key value d items table none =
    subst (IsFilled key value d items 0) (sym none)
    (record {
      hit = λ x c. absurd (none_taken items x c);
      miss = λ n none. refl;
      below = λ x c. absurd (none_taken items x c);
      next = λ k e le lt. omega arith;
    })

padded : {V : Type 0} (d : V) (xs : List V) (m n : ℕ) → get_or (xs ++ replicate m d) n d ≡ get_or xs n d
padded d [] zero n = refl
padded d [] (suc m) zero = refl
padded d [] (suc m) (suc n) = padded d [] m n
padded d (x ∷ xs) m zero = refl
padded d (x ∷ xs) m (suc n) = padded d xs m n

behind : {V : Type 0} (d v : V) (xs : List V) (n : ℕ) → n ≢ length xs → get_or (xs ++ v ∷ []) n d ≡ get_or xs n d
behind d v [] zero ne = absurd (ne refl)
behind d v [] (suc n) ne = refl
behind d v (x ∷ xs) zero ne = refl
behind d v (x ∷ xs) (suc n) ne = behind d v xs n (λ e. ne (ap suc e))

pub filled_more : {A V : Type 0} (key : A → ℕ) (value : A → V) (d : V) (items lent : List A) (i : ℕ) (x : A) (before padding after : List V) (size : ℕ) →
    AllPairs (λ (a b : A). key a < key b) items → lent ≡ items → i < length lent → x ≡ get_or lent i x → size ≡ length before →
    padding ≡ take (key x) before ++ replicate (key x - size) d → after ≡ padding ++ value x ∷ [] →
    IsFilled key value d items i before → IsFilled key value d items (i + 1) after
filled_more {A} {V} key value d items lent i x before padding after room up same lent_lt lent_is count padding_is end t =
    record {
      hit = λ y c. by y (split y c);
      miss = λ n none. ⊎_elim (λ (e : n ≡ key x). absurd (none x (into_last x refl) (sym e)))
          (λ ne. other n ne ∙ t.miss n (λ y c e. none y (into_first y c) e)) (cases_eq n (key x));
      below = λ y c. under y (split y c);
      next = λ k e ge k_lt.
          let more : key (get_or items i e) < key (get_or items k e) = up i k e (omega (arith, ge)) k_lt in
          let is_x : key (get_or items i e) ≡ key x = ap key (at e) in
          omega (arith, more, is_x, whole);
    }
  where
    pad : padding ≡ take (key x) before ++ replicate (key x - length before) d
    pad = padding_is ∙ ap (λ n. take (key x) before ++ replicate (key x - n) d) count

    lt : i < length items
    lt = subst (λ l. i < length l) same lent_lt

    is : x ≡ get_or items i x
    is = subst (λ l. x ≡ get_or l i x) same lent_is

    any : (xs : List A) (k : ℕ) (a b : A) → k < length xs → get_or xs k a ≡ get_or xs k b
    any [] k a b h = absurd (omega (arith, h))
    any (y ∷ ys) zero a b h = refl
    any (y ∷ ys) (suc k) a b h = any ys k a b (omega (arith, h))

    at : (e : A) → get_or items i e ≡ x
    at e = any items i e x lt ∙ sym is

    le : length before ≤ key x
    le = let h = t.next i x (omega arith) lt in let e : key (get_or items i x) ≡ key x = ap key (sym is) in omega (arith, h, e)

    filled : padding ≡ before ++ replicate (key x - length before) d
    filled = pad ∙ ap (λ l. l ++ replicate (key x - length before) d) (take_all (key x) before le)

    size : length padding ≡ key x
    size = ap length filled ∙ length-append before (replicate (key x - length before) d)
        ∙ ap (λ n. length before + n) (length-replicate (key x - length before) d) ∙ omega (arith, le)

    whole : length after ≡ key x + 1
    whole = ap length end ∙ length-append padding (value x ∷ []) ∙ ap (λ n. n + 1) size

    other : (n : ℕ) → n ≢ key x → get_or after n d ≡ get_or before n d
    other n ne =
        ap (λ l. get_or l n d) end ∙ behind d (value x) padding n (λ e. ne (e ∙ size)) ∙ ap (λ l. get_or l n d) filled
        ∙ padded d before (key x - length before) n

    here : get_or after (key x) d ≡ value x
    here =
        subst (λ n. get_or after n d ≡ value x) size
        (ap (λ l. get_or l (length padding) d) end ∙ get_or-append_seam padding (value x) [] d)

    taken : take (i + 1) items ≡ take i items ++ x ∷ []
    taken = take_more items i x lt ∙ ap (λ y. take i items ++ y ∷ []) (sym is)

    split : (y : A) → Contains (take (i + 1) items) y → Contains (take i items) y ⊎ (x ≡ y)
    split y c =
        ⊎_elim (λ h. inl h) (λ h. ⊎_elim (λ e. inr e) (λ z. absurd (none_in y z)) (in_cons x y [] h))
        (Contains-append_cases (take i items) (x ∷ []) y (subst (λ l. Contains l y) taken c))

    into_first : (y : A) → Contains (take i items) y → Contains (take (i + 1) items) y
    into_first y c = subst (λ l. Contains l y) (sym taken) (Contains-append_left (take i items) (x ∷ []) y c)

    into_last : (y : A) → x ≡ y → Contains (take (i + 1) items) y
    into_last y e = subst (Contains (take (i + 1) items)) e (subst (λ l. Contains l x) (sym taken) (Contains-append_right (take i items) (x ∷ []) x (first_in x [])))

    by : (y : A) → Contains (take i items) y ⊎ (x ≡ y) → get_or after (key y) d ≡ value y
    by y (inl c) = let b = t.below y c in other (key y) (λ e. absurd (omega (arith, b, le, e))) ∙ t.hit y c
    by y (inr e) = subst (λ z. get_or after (key z) d ≡ value z) e here

    under : (y : A) → Contains (take i items) y ⊎ (x ≡ y) → key y < length after
    under y (inl c) = let b = t.below y c in omega (arith, b, le, whole)
    under y (inr e) = subst (λ z. key z < length after) e (omega (arith, whole))

-- the same by what was read at a place
pub filled_at : {A V : Type 0} (key : A → ℕ) (value : A → V) (d : V) (items lent : List A) (i : ℕ) (e : A) (before padding after : List V) (size : ℕ) →
    AllPairs (λ (a b : A). key a < key b) items → lent ≡ items → i < length lent → size ≡ length before →
    padding ≡ take (key (get_or lent i e)) before ++ replicate (key (get_or lent i e) - size) d →
    after ≡ padding ++ value (get_or lent i e) ∷ [] → IsFilled key value d items i before → IsFilled key value d items (i + 1) after
filled_at {A} key value d items lent i e before padding after size up same lt count pad end t =
    filled_more key value d items lent i (get_or lent i e) before padding after size up same lt (any lent i e (get_or lent i e) lt) count pad end t
  where
    any : (xs : List A) (k : ℕ) (a b : A) → k < length xs → get_or xs k a ≡ get_or xs k b
    any [] k a b h = absurd (omega (arith, h))
    any (y ∷ ys) zero a b h = refl
    any (y ∷ ys) (suc k) a b h = any ys k a b (omega (arith, h))

-- whether some item has a key
pub record HasKey {A : Type 0} (key : A → ℕ) (xs : List A) (n : ℕ) : Type 0 where
  pub item : A
  pub among : Contains xs item
  pub is : key item ≡ n

pub key_found : {A : Type 0} (key : A → ℕ) (xs : List A) (n : ℕ) → HasKey key xs n ⊎ ((x : A) → Contains xs x → key x ≡ n → ⊥)
key_found key [] n = inr (λ x c e. none_in x c)
key_found key (x ∷ xs) n =
    ⊎_elim (λ (e : key x ≡ n). inl (record { item = x; among = first_in x xs; is = e }))
    (λ ne.
    ⊎_elim (λ h. inl (record { item = h.item; among = later_in x h.item xs h.among; is = h.is }))
    (λ none. inr (λ y c e. ⊎_elim (λ s. ne (ap key s ∙ e)) (λ d. none y d e) (in_cons x y xs c))) (key_found key xs n))
    (cases_eq (key x) n)

-- ---- fixed places

abbrev pub node_key : Node → ℕ
node_key x = x.reg.number

abbrev pub node_value : Node → Loc
node_value x = x.reg.loc

pub places_filled : (g : Graph) (i : ℕ) (places : List Loc) → AllPairs (λ (x y : Node). x.reg.number < y.reg.number) g.nodes →
    length g.nodes ≤ i → IsFilled node_key node_value loc.Unset g.nodes i places → (n : ℕ) → places_by places n ≡ fixed g n
places_filled g i places up le t n =
    ⊎_elim
    (λ h.
    let c : Contains (take i g.nodes) h.item = subst (λ l. Contains l h.item) (sym (take_all i g.nodes le)) h.among in
    let f : node_at g.nodes h.item.reg.number ≡ Some h.item = found_at g.nodes h.item up h.among in
    subst (λ k. places_by places k ≡ location_of_node (node_at g.nodes k)) h.is
    (t.hit h.item c ∙ sym (ap location_of_node f)))
    (λ none.
    t.miss n (λ x c e. none x (subst (λ l. Contains l x) (take_all i g.nodes le) c) e)
    ∙ sym (ap location_of_node (missing g.nodes n none)))
    (key_found node_key g.nodes n)

pub places_cover : (g : Graph) (i : ℕ) (places : List Loc) → length g.nodes ≤ i →
    IsFilled node_key node_value loc.Unset g.nodes i places → All (λ (x : Node). x.reg.number < length places) g.nodes
places_cover g i places le t = λ k d lt.
    t.below (get_or g.nodes k d) (subst (λ l. Contains l (get_or g.nodes k d)) (sym (take_all i g.nodes le)) (Contains-get_or g.nodes k d lt))

-- ---- intervals

abbrev pub interval_key : Interval → ℕ
interval_key x = x.register

abbrev pub interval_value : Interval → Option Range
interval_value x = Some (record { from = x.from; to = x.to })

pub intervals_filled : (items : List Interval) (i : ℕ) (t : RangeTable) → length items ≤ i →
    IsFilled interval_key interval_value None items i t → HasIntervals items t
intervals_filled items i t le had =
    record {
      sound = λ n r e. by n r e (key_found interval_key items n);
      whole = λ x c. had.hit x (back x c);
    }
  where
    back : (x : Interval) → Contains items x → Contains (take i items) x
    back x c = subst (λ l. Contains l x) (sym (take_all i items le)) c

    same : (r s : Range) → Some r ≡ Some s → r ≡ s
    same r s e = cc

    by : (n : ℕ) (r : Range) → range_at t n ≡ Some r →
        HasKey interval_key items n ⊎ ((x : Interval) → Contains items x → interval_key x ≡ n → ⊥) →
        Contains items (record { register = n; from = r.from; to = r.to })
    by n r e (inl h) =
        let at : range_at t h.item.register ≡ Some (record { from = h.item.from; to = h.item.to }) = had.hit h.item (back h.item h.among) in
        let is : record { from = h.item.from; to = h.item.to } ≡ r =
        same (record { from = h.item.from; to = h.item.to }) r (sym at ∙ ap (range_at t) h.is ∙ e) in
        subst (λ (s : Range). Contains items (record { register = n; from = s.from; to = s.to })) is
        (subst (λ k. Contains items (record { register = k; from = h.item.from; to = h.item.to })) h.is h.among)
    by n r e (inr none) =
        let f : range_at t n ≡ None = had.miss n (λ x c s. none x (subst (λ l. Contains l x) (take_all i items le) c) s) in absurd (cc)

-- ---- one place

pub places_put : (places : List Loc) (n : ℕ) (here : Loc) → n < length places → (k : ℕ) →
    places_by (set places n here) k ≡ colouring_with (places_by places) n here k
places_put places n here lt k =
    ⊎_elim
    (λ (e : k ≡ n).
    subst (λ j. places_by (set places n here) j ≡ here) (sym e) (get_or-set_same places n here loc.Unset lt)
    ∙ sym (ap (λ (b : Bool). cond b here (places_by places k)) (eq-eqb k n e)))
    (λ ne.
    get_or-set_other places n k here loc.Unset ne ∙ sym (ap (λ (b : Bool). cond b here (places_by places k)) (ne_eqb k n ne)))
    (cases_eq k n)
