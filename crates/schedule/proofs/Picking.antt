-- The lines of a run by falling heights are those that come next, one after the other.
use Rattle.std.proofs.Common.{◌≡◌, ℕ, suc, ◌<◌, ◌≤◌, ◌⊎◌, inl, inr, ⊎_elim, Bool, true, false, cond, not, nat_eq, nat_lt, ◌&&◌, List, [], ◌∷◌, ◌++◌, length, map, Option, Some, None, refl, sym, ap, ◌∙◌, subst, arith, length-append, append_assoc, append-nil}
use Rattle.std.specs.List.{Contains, filter}
use Rattle.std.proofs.lemmas.Bool.{true≢false, lt-ltb, le-ltb, eqb-true, eqb-false, eq-eqb}
use Rattle.std.proofs.lemmas.List.Elements.{Contains-append_left, Contains-append_right}
use Rattle.bs_words.proofs.Lists.{none_in, first_in, later_in, in_cons, head_same, tail_same, none_there}
use Rattle.schedule_rules.specs.Straight.{depends, Ranked}
use Rattle.schedule_rules.specs.Orders.{rank_line, depends_on_none, Pick, higher, if_free, best, take_next, taken_in_order}
use Rattle.schedule.proofs.Falling.{Fall, left_of_it, without_it}

-- ---- the first of those as high

abbrev pub has_height : ℕ → Ranked → Bool
has_height h r = nat_eq r.height h

-- what is so high, in its order, is the same in both
abbrev pub HaveSame : List Ranked → List Ranked → Type 0
HaveSame xs ys = (h : ℕ) → filter (has_height h) xs ≡ filter (has_height h) ys

-- none is higher than an earlier one
abbrev pub Sink : List Ranked → Type 0
Sink [] = Unit {0}
Sink (r ∷ rs) = ((q : Ranked) → Contains rs q → q.height ≤ r.height) × Sink rs

into_filter : (p : Ranked → Bool) (xs : List Ranked) (x : Ranked) → Contains xs x → p x ≡ true → Contains (filter p xs) x
into_filter p [] x c t = absurd (none_in x c)
into_filter p (y ∷ ys) x c t = by (p y) refl (λ d. into_filter p ys x d t) (in_cons y x ys c)
  where
    by : (b : Bool) → p y ≡ b → (Contains ys x → Contains (filter p ys) x) → (y ≡ x) ⊎ Contains ys x → Contains (cond b (y ∷ filter p ys) (filter p ys)) x
    by true s ih (inl e) = subst (λ z. Contains (y ∷ filter p ys) z) e (first_in y (filter p ys))
    by true s ih (inr d) = later_in y x (filter p ys) (ih d)
    by false s ih (inl e) = absurd (true≢false (sym t ∙ ap p (sym e) ∙ s))
    by false s ih (inr d) = ih d

out_of_filter : (p : Ranked → Bool) (xs : List Ranked) (x : Ranked) → Contains (filter p xs) x → Contains xs x
out_of_filter p [] x c = c
out_of_filter p (y ∷ ys) x c = by (p y) (λ d. later_in y x ys (out_of_filter p ys x d)) c
  where
    by : (b : Bool) → (Contains (filter p ys) x → Contains (y ∷ ys) x) → Contains (cond b (y ∷ filter p ys) (filter p ys)) x → Contains (y ∷ ys) x
    by true ih c = ⊎_elim (λ e. subst (λ z. Contains (y ∷ ys) z) e (first_in y ys)) ih (in_cons y x (filter p ys) c)
    by false ih c = ih c

pub filter-append : (p : Ranked → Bool) (xs ys : List Ranked) → filter p (xs ++ ys) ≡ filter p xs ++ filter p ys
filter-append p [] ys = refl
filter-append p (x ∷ xs) ys = by (p x) (filter-append p xs ys)
  where
    by : (b : Bool) → filter p (xs ++ ys) ≡ filter p xs ++ filter p ys →
        cond b (x ∷ filter p (xs ++ ys)) (filter p (xs ++ ys)) ≡ cond b (x ∷ filter p xs) (filter p xs) ++ filter p ys
    by true ih = ap (λ l. x ∷ l) ih
    by false ih = ih

-- a list at the first that passes a test
record Cut (p : Ranked → Bool) (xs : List Ranked) (x : Ranked) (rest : List Ranked) : Type 0 where
  before : List Ranked
  after : List Ranked
  whole : xs ≡ before ++ x ∷ after
  none : (b : Ranked) → Contains before b → p b ≡ false
  same : filter p after ≡ rest

cut : (p : Ranked → Bool) (xs : List Ranked) (x : Ranked) (rest : List Ranked) → filter p xs ≡ x ∷ rest → Cut p xs x rest
cut p [] x rest e = absurd (none_there e)
cut p (y ∷ ys) x rest e = by (p y) refl e (cut p ys x rest)
  where
    by : (b : Bool) → p y ≡ b → cond b (y ∷ filter p ys) (filter p ys) ≡ x ∷ rest → (filter p ys ≡ x ∷ rest → Cut p ys x rest) → Cut p (y ∷ ys) x rest
    by true t e ih =
        record { before = []; after = ys; whole = ap (λ z. z ∷ ys) (head_same e); none = λ b c. absurd (none_in b c); same = tail_same e }
    by false t e ih =
        let k = ih e in
        record {
          before = y ∷ k.before;
          after = k.after;
          whole = ap (λ l. y ∷ l) k.whole;
          none = λ b c. ⊎_elim (λ (s : y ≡ b). ap p (sym s) ∙ t) (λ d. k.none b d) (in_cons y b k.before c);
          same = k.same;
        }

-- ---- which comes next

depends_on_no_lower : (r : Ranked) (before : List Ranked) →
    ((b : Ranked) → Contains before b → depends r.line b.line ≡ true → r.height < b.height) →
    ((b : Ranked) → Contains before b → b.height < r.height) → depends_on_none r.line (map rank_line before) ≡ true
depends_on_no_lower r [] fall lower = refl
depends_on_no_lower r (b ∷ bs) fall lower =
    by (depends r.line b.line) refl (depends_on_no_lower r bs (λ x c. fall x (later_in b x bs c)) (λ x c. lower x (later_in b x bs c)))
  where
    by : (d : Bool) → depends r.line b.line ≡ d → depends_on_none r.line (map rank_line bs) ≡ true →
        (not d && depends_on_none r.line (map rank_line bs)) ≡ true
    by true t ih = let up = fall b (first_in b bs) t in let down = lower b (first_in b bs) in absurd (omega (arith, up, down))
    by false t ih = ih

-- nothing that comes later is higher
no_higher : (here : Pick) (before rs : List Ranked) → ((q : Ranked) → Contains rs q → q.height ≤ here.taken.height) →
    higher here (best before rs) ≡ here
no_higher here before [] le = refl
no_higher here before (r ∷ rs) le =
    by (depends_on_none r.line (map rank_line before)) (best (before ++ r ∷ []) rs) (no_higher here (before ++ r ∷ []) rs (λ q c. le q (later_in r q rs c)))
  where
    top : r.height ≤ here.taken.height
    top = le r (first_in r rs)

    lower : (p q : Pick) → q.taken.height ≤ p.taken.height → higher p (Some q) ≡ p
    lower p q h = ap (λ (b : Bool). cond b q p) (le-ltb p.taken.height q.taken.height h)

    it : Pick
    it = record { before = before; taken = r; after = rs }

    by : (free : Bool) (o : Option Pick) → higher here o ≡ here → higher here (if_free free it o) ≡ here
    by false o e = e
    by true None e = lower here it top
    by true (Some q) e = choose (nat_lt r.height q.taken.height)
      where
        choose : (b : Bool) → higher here (Some (cond b q it)) ≡ here
        choose true = e
        choose false = lower here it top

-- the highest of all, and of those as high the first
highest_is_best : (front before mid : List Ranked) (r : Ranked) (after : List Ranked) → front ≡ before ++ mid →
    ((b : Ranked) → Contains front b → depends r.line b.line ≡ true → r.height < b.height) →
    ((b : Ranked) → Contains front b → b.height < r.height) → ((q : Ranked) → Contains after q → q.height ≤ r.height) →
    best before (mid ++ r ∷ after) ≡ Some (record { before = front; taken = r; after = after })
highest_is_best front before [] r after is fall lower le =
    ap (λ (b : Bool). if_free b it (best (before ++ r ∷ []) after)) free ∙ ap (λ p. Some p) (no_higher it (before ++ r ∷ []) after le)
    ∙ ap (λ l. Some (at l)) (sym same)
  where
    at : List Ranked → Pick
    at l = record { before = l; taken = r; after = after }

    it : Pick
    it = at before

    same : front ≡ before
    same = is ∙ append-nil before

    free : depends_on_none r.line (map rank_line before) ≡ true
    free = subst (λ l. depends_on_none r.line (map rank_line l) ≡ true) same (depends_on_no_lower r front fall lower)
highest_is_best front before (m ∷ mid) r after is fall lower le =
    ap (λ o. if_free (depends_on_none m.line (map rank_line before)) it o)
    (highest_is_best front (before ++ m ∷ []) mid r after (is ∙ sym (append_assoc before (m ∷ []) mid)) fall lower le)
    ∙ by (depends_on_none m.line (map rank_line before))
  where
    it : Pick
    it = record { before = before; taken = m; after = mid ++ r ∷ after }

    top : Pick
    top = record { before = front; taken = r; after = after }

    among : Contains front m
    among = subst (λ l. Contains l m) (sym is) (Contains-append_right before (m ∷ mid) m (first_in m mid))

    by : (b : Bool) → if_free b it (Some top) ≡ Some top
    by false = refl
    by true = ap (λ (b : Bool). Some (cond b top it)) (lt-ltb m.height r.height (lower m among))

-- ---- one after the other

none_stay : (p : Ranked → Bool) (xs : List Ranked) → ((x : Ranked) → Contains xs x → p x ≡ false) → filter p xs ≡ []
none_stay p [] none = refl
none_stay p (x ∷ xs) none =
    ap (λ (b : Bool). cond b (x ∷ filter p xs) (filter p xs)) (none x (first_in x xs)) ∙ none_stay p xs (λ y c. none y (later_in x y xs c))

first_stays : (r : Ranked) (rs : List Ranked) → filter (has_height r.height) (r ∷ rs) ≡ r ∷ filter (has_height r.height) rs
first_stays r rs =
    ap (λ (b : Bool). cond b (r ∷ filter (has_height r.height) rs) (filter (has_height r.height) rs)) (eq-eqb r.height r.height refl)

first_goes : (h : ℕ) (r : Ranked) (rs : List Ranked) → nat_eq r.height h ≡ false → filter (has_height h) (r ∷ rs) ≡ filter (has_height h) rs
first_goes h r rs t = ap (λ (b : Bool). cond b (r ∷ filter (has_height h) rs) (filter (has_height h) rs)) t

pub in_order : (ds left : List Ranked) → Sink ds → HaveSame ds left → Fall left → taken_in_order (length left) left ≡ map rank_line ds
in_order [] [] s h f = refl
in_order [] (r ∷ rs) s h f = absurd (none_there (h r.height ∙ first_stays r rs))
in_order (d ∷ ds) left s h f =
    next (cut (has_height d.height) left d (filter (has_height d.height) ds) (sym (h d.height) ∙ first_stays d ds))
    (λ l same fall. in_order ds l s.1 same fall)
  where
    no_more : (q : Ranked) → Contains (d ∷ ds) q → q.height ≤ d.height
    no_more q c = ⊎_elim (λ e. let same = ap (λ (k : Ranked). k.height) e in omega (arith, same)) (λ later. s.0 q later) (in_cons d q ds c)

    under : (q : Ranked) → Contains left q → q.height ≤ d.height
    under q c =
        no_more q (out_of_filter (has_height q.height) (d ∷ ds) q
        (subst (λ l. Contains l q) (sym (h q.height)) (into_filter (has_height q.height) left q c (eq-eqb q.height q.height refl))))

    next : Cut (has_height d.height) left d (filter (has_height d.height) ds) →
        ((l : List Ranked) → HaveSame ds l → Fall l → taken_in_order (length l) l ≡ map rank_line ds) →
        taken_in_order (length left) left ≡ map rank_line (d ∷ ds)
    next k ih =
        subst (λ l. taken_in_order (length l) l ≡ map rank_line (d ∷ ds)) (sym k.whole)
        (ap (λ n. taken_in_order n (k.before ++ d ∷ k.after)) size ∙ ap (take_next (taken_in_order (length (k.before ++ k.after)))) first
        ∙ ap (λ l. d.line ∷ l) (ih (k.before ++ k.after) same (without_it k.before d k.after falls)))
      where
        falls : Fall (k.before ++ d ∷ k.after)
        falls = subst Fall k.whole f

        lower : (b : Ranked) → Contains k.before b → b.height < d.height
        lower b c =
            let le = under b (subst (λ l. Contains l b) (sym k.whole) (Contains-append_left k.before (d ∷ k.after) b c)) in
            let ne = eqb-false b.height d.height (k.none b c) in
            omega (arith, le, ne)

        first : best [] (k.before ++ d ∷ k.after) ≡ Some (record { before = k.before; taken = d; after = k.after })
        first =
            highest_is_best k.before [] k.before d k.after refl (left_of_it k.before d k.after falls) lower
            (λ q c. under q (subst (λ l. Contains l q) (sym k.whole) (Contains-append_right k.before (d ∷ k.after) q (later_in d q k.after c))))

        size : length (k.before ++ d ∷ k.after) ≡ suc (length (k.before ++ k.after))
        size =
            let a = length-append k.before (d ∷ k.after) in
            let b = length-append k.before k.after in
            omega (arith, a, b)

        same : HaveSame ds (k.before ++ k.after)
        same n = by (nat_eq d.height n) refl
          where
            by : (b : Bool) → nat_eq d.height n ≡ b → filter (has_height n) ds ≡ filter (has_height n) (k.before ++ k.after)
            by true t =
                subst (λ m. filter (has_height m) ds ≡ filter (has_height m) (k.before ++ k.after)) (eqb-true d.height n t)
                (sym k.same ∙ sym (filter-append (has_height d.height) k.before k.after
                ∙ ap (λ l. l ++ filter (has_height d.height) k.after) (none_stay (has_height d.height) k.before k.none)))
            by false t =
                sym (first_goes n d ds t) ∙ h n ∙ ap (filter (has_height n)) k.whole ∙ filter-append (has_height n) k.before (d ∷ k.after)
                ∙ ap (λ l. filter (has_height n) k.before ++ l) (first_goes n d k.after t)
                ∙ sym (filter-append (has_height n) k.before k.after)
