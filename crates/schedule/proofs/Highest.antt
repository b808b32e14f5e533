-- The greatest height of what depends on a line, by what later lines do.
use Rattle.std.proofs.Common.{◌≡◌, ℕ, ◌+◌, ◌<◌, Bool, true, false, cond, max, ◌&&◌, ◌||◌, List, [], ◌∷◌, length, drop, get_or, refl, sym, ap, ◌∙◌, arith}
use Rattle.std.proofs.lemmas.List.{drop_more}
use Rattle.bs_words.specs.declared.types.Loc.{Loc}
use Rattle.lin_ir.specs.Meaning.{same_loc}
use Rattle.lin_ir.specs.declared.lin.Spot.{Spot}
use Rattle.lin_ir.specs.declared.lin.Line.{Line}
use Rattle.schedule_rules.specs.Straight.{is_among_spots, meet, depends, is_access, is_store, Ranked, highest_after}
use Rattle.schedule.specs.Heights.{height_at, greatest_at, ranked_as, highest_by, IsLater}
use Rattle.schedule.specs.declared.heights.Heights.{Heights}
use Rattle.schedule.specs.declared.heights.Later.{Later}

-- ---- of those that pass a test

none_passes : (rs : List Ranked) → highest_by (λ i. false) rs ≡ 0
none_passes [] = refl
none_passes (r ∷ rs) = ap (λ n. max 0 n) (none_passes rs)

max_or : (a b : Bool) (h x y z : ℕ) → z ≡ max x y → max (cond (a || b) h 0) z ≡ max (max (cond a h 0) x) (max (cond b h 0) y)
max_or true true h x y z e = omega (arith, e)
max_or true false h x y z e = omega (arith, e)
max_or false true h x y z e = omega (arith, e)
max_or false false h x y z e = omega (arith, e)

either_passes : (p q : Line → Bool) (rs : List Ranked) → highest_by (λ i. p i || q i) rs ≡ max (highest_by p rs) (highest_by q rs)
either_passes p q [] = refl
either_passes p q (r ∷ rs) =
    max_or (p r.line) (q r.line) r.height (highest_by p rs) (highest_by q rs) (highest_by (λ i. p i || q i) rs) (either_passes p q rs)

where_passes : (b : Bool) (q : Line → Bool) (rs : List Ranked) → highest_by (λ i. b && q i) rs ≡ cond b (highest_by q rs) 0
where_passes true q rs = refl
where_passes false q rs = none_passes rs

after_is : (i : Line) (rs : List Ranked) → highest_after i rs ≡ highest_by (λ j. depends j i) rs
after_is i [] = refl
after_is i (r ∷ rs) = ap (λ n. max (cond (depends r.line i) r.height 0) n) (after_is i rs)

-- ---- by location

meets : (of : Line → List Spot) (t : Heights) (rs : List Ranked) →
    ((l : Loc) → height_at t l ≡ highest_by (λ j. is_among_spots l (of j)) rs) →
    (ss : List Spot) → greatest_at t ss ≡ highest_by (λ j. meet ss (of j)) rs
meets of t rs h [] = sym (none_passes rs)
meets of t rs h (s ∷ ss) =
    ap (λ n. max n (greatest_at t ss)) (h s.loc)
    ∙ ap (λ n. max (highest_by (λ j. is_among_spots s.loc (of j)) rs) n) (meets of t rs h ss)
    ∙ sym (either_passes (λ j. is_among_spots s.loc (of j)) (λ j. meet ss (of j)) rs)

grouped : (a b c d e : ℕ) → max (max a (max b c)) (max d e) ≡ max a (max b (max c (max d e)))
grouped a b c d e = omega arith

each_same : (a b c d e v w x y z : ℕ) → a ≡ v → b ≡ w → c ≡ x → d ≡ y → e ≡ z →
    max a (max b (max c (max d e))) ≡ max v (max w (max x (max y z)))
each_same a b c d e v w x y z p q r s t = cc

-- what the tables ask is what depends on the line
pub asked : (i : Line) (rs : List Ranked) (t : Later) → IsLater rs t →
    max (max (greatest_at t.read i.results) (max (greatest_at t.written i.args) (greatest_at t.written i.results)))
    (max (cond (is_store i.op) t.access 0) (cond (is_access i.op) t.store 0))
    ≡ highest_after i rs
asked i rs t h =
    grouped (greatest_at t.read i.results) (greatest_at t.written i.args) (greatest_at t.written i.results)
    (cond (is_store i.op) t.access 0) (cond (is_access i.op) t.store 0)
    ∙ each_same _ _ _ _ _ (by reads) (by writes) (by writes_again) (by stores) (by accesses)
    (meets (λ j. j.args) t.read rs h.read i.results) (meets (λ j. j.results) t.written rs h.written i.args)
    (meets (λ j. j.results) t.written rs h.written i.results)
    (ap (λ n. cond (is_store i.op) n 0) h.access ∙ sym (where_passes (is_store i.op) (λ j. is_access j.op) rs))
    (ap (λ n. cond (is_access i.op) n 0) h.store ∙ sym (where_passes (is_access i.op) (λ j. is_store j.op) rs))
    ∙ sym (after_is i rs ∙ parts)
  where
    by : (Line → Bool) → ℕ
    by p = highest_by p rs

    reads : Line → Bool
    reads j = meet i.results j.args

    writes : Line → Bool
    writes j = meet i.args j.results

    writes_again : Line → Bool
    writes_again j = meet i.results j.results

    stores : Line → Bool
    stores j = is_store i.op && is_access j.op

    accesses : Line → Bool
    accesses j = is_access i.op && is_store j.op

    parts : highest_by (λ j. depends j i) rs ≡ max (by reads) (max (by writes) (max (by writes_again) (max (by stores) (by accesses))))
    parts =
        either_passes reads (λ j. writes j || (writes_again j || (stores j || accesses j))) rs
        ∙ ap (λ n. max (by reads) n) (either_passes writes (λ j. writes_again j || (stores j || accesses j)) rs
        ∙ ap (λ n. max (by writes) n) (either_passes writes_again (λ j. stores j || accesses j) rs
        ∙ ap (λ n. max (by writes_again) n) (either_passes stores accesses rs)))

pub asked_by : (i : Line) (rs : List Ranked) (t : Later) (args results : List Spot) (reads writes writes_again written both memory n : ℕ) →
    args ≡ i.args → results ≡ i.results → reads ≡ greatest_at t.read results → writes ≡ greatest_at t.written args →
    writes_again ≡ greatest_at t.written results → written ≡ max writes writes_again → both ≡ max reads written →
    memory ≡ max (cond (is_store i.op) t.access 0) (cond (is_access i.op) t.store 0) → n ≡ max both memory →
    IsLater rs t → n ≡ highest_after i rs
asked_by i rs t args results reads writes writes_again written both memory n a b c d e f g k o h = cc (asked i rs t h)

-- ---- tables as they are filled

pub line_added : (i : Line) (height : ℕ) (old new : Later) (rs : List Ranked) →
    ((l : Loc) → height_at new.read l ≡ max (cond (is_among_spots l i.args) height 0) (height_at old.read l)) →
    ((l : Loc) → height_at new.written l ≡ max (cond (is_among_spots l i.results) height 0) (height_at old.written l)) →
    new.access ≡ max (cond (is_access i.op) height 0) old.access → new.store ≡ max (cond (is_store i.op) height 0) old.store →
    IsLater rs old → IsLater (ranked_as i height ∷ rs) new
line_added i height old new rs read written access store h =
    record {
      read = λ l. read l ∙ ap (λ n. max (cond (is_among_spots l i.args) height 0) n) (h.read l);
      written = λ l. written l ∙ ap (λ n. max (cond (is_among_spots l i.results) height 0) n) (h.written l);
      access = access ∙ ap (λ n. max (cond (is_access i.op) height 0) n) h.access;
      store = store ∙ ap (λ n. max (cond (is_store i.op) height 0) n) h.store;
    }

raised : (a b : Bool) (h x y z : ℕ) → y ≡ max (cond a h 0) x → max (cond (a || b) h 0) x ≡ z → max (cond b h 0) y ≡ z
raised true true h x y z e f = omega (arith, e, f)
raised true false h x y z e f = omega (arith, e, f)
raised false true h x y z e f = omega (arith, e, f)
raised false false h x y z e f = omega (arith, e, f)

-- of the spots from a place on, as the loop over them goes
abbrev pub IsRaised : List Spot → ℕ → ℕ → Heights → Heights → Type 0
IsRaised ss i height first now = (l : Loc) →
    max (cond (is_among_spots l (drop i ss)) height 0) (height_at now l) ≡ max (cond (is_among_spots l ss) height 0) (height_at first l)

pub raise_more : (ss : List Spot) (i height : ℕ) (e : Spot) (first old new : Heights) → i < length ss →
    ((l : Loc) → height_at new l ≡ max (cond (same_loc (get_or ss i e).loc l) height 0) (height_at old l)) →
    IsRaised ss i height first old → IsRaised ss (i + 1) height first new
raise_more ss i height e first old new lt one h l =
    raised (same_loc (get_or ss i e).loc l) (is_among_spots l (drop (i + 1) ss)) height (height_at old l) (height_at new l)
    (max (cond (is_among_spots l ss) height 0) (height_at first l)) (one l)
    (sym (ap (λ xs. max (cond (is_among_spots l xs) height 0) (height_at old l)) (drop_more ss i e lt)) ∙ h l)
