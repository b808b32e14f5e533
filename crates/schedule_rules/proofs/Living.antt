-- What is live where straight runs are reordered.
use Rattle.std.proofs.Common.{◌≡◌, ◌≢◌, ℕ, Bool, true, false, cond, ◌&&◌, ◌||◌, ⊎_elim, List, [], ◌∷◌, ◌++◌, refl, sym, ap, ◌∙◌, subst}
use Rattle.std.proofs.lemmas.Bool.{true≢false, eq-eqb}
use Rattle.std.specs.List.{Contains}
use Rattle.bs_words.specs.declared.types.Comp.{Comp}
use Rattle.bs_words.specs.declared.types.Loc.{Loc}
use Rattle.bs_words.specs.declared.types.Loc.TheVariants as loc
use Rattle.mach_ir.specs.Acts.{Target, On}
use Rattle.mach_ir.specs.Meaning.{is_destroyed, Nothing}
use Rattle.mach_ir.specs.Walks.{OneOf, this, other}
use Rattle.mach_ir.specs.declared.op.Access.TheVariants as access
use Rattle.mach_ir.specs.declared.op.Op.TheVariants as op
use Rattle.lin_ir.specs.Meaning.{same_loc, destroyed_by, has_label, after_label}
use Rattle.lin_ir.specs.Walks.{targets, may_raise, tries_after, ReadsLocationAs, Writes, Live, read, on}
use Rattle.lin_ir.specs.Walks as walks
use Rattle.lin_ir.specs.declared.lin.LinOp.{LinOp}
use Rattle.lin_ir.specs.declared.lin.LinOp.TheVariants as lin
use Rattle.lin_ir.specs.declared.lin.Line.{Line}
use Rattle.lin_ir.specs.declared.lin.Lin.{Lin}
use Rattle.lin_ir.specs.declared.lin.Spot.{Spot}
use Rattle.linearise_rules.proofs.Homes.{IsIn, is_first, is_later, in_of}
use Rattle.schedule_rules.specs.Straight.{is_plain, is_store, is_access, is_among_spots, meet, depends}
use Rattle.schedule_rules.specs.Orders.{depends_on_none, are_plain, Reorders, nothing, takes, Rest, rest_ends, rest_line, Ordered, ordered}
use Rattle.schedule_rules.proofs.Reorder.{and_left, and_right, not_true, plain_left, plain_right, plain_both}
use Rattle.schedule_rules.proofs.Writes.{or_parts}

-- ---- lists of lines

pub cons_head : {i j : Line} {is js : List Line} → i ∷ is ≡ j ∷ js → i ≡ j
cons_head e = cc

pub cons_tail : {i j : Line} {is js : List Line} → i ∷ is ≡ j ∷ js → is ≡ js
cons_tail e = cc

pub cons_nil : {i : Line} {is : List Line} → i ∷ is ≡ [] → ⊥
cons_nil e = cc

-- ---- lines of runs go on, and destroy nothing

pub plain_on : (f : LinOp) → is_plain f ≡ true → OneOf On (targets f)
plain_on (lin.Op (op.Pure f)) e = this
plain_on (lin.Op (op.Access (access.Load k o))) e = this
plain_on (lin.Op (op.Access (access.Store k o))) e = this
plain_on (lin.Op (op.Access (access.Alloc bs))) e = absurd (true≢false (sym e))
plain_on (lin.Op (op.Calling f)) e = absurd (true≢false (sym e))
plain_on (lin.Op (op.Leaving f)) e = absurd (true≢false (sym e))
plain_on (lin.Flow f) e = absurd (true≢false (sym e))

only_on : (t : Target) → OneOf t (On ∷ []) → t ≡ On
only_on _ this = refl
only_on t (other o) = elim o [ ]

pub plain_only : (f : LinOp) (t : Target) → is_plain f ≡ true → OneOf t (targets f) → t ≡ On
plain_only (lin.Op (op.Pure f)) t e o = only_on t o
plain_only (lin.Op (op.Access (access.Load k x))) t e o = only_on t o
plain_only (lin.Op (op.Access (access.Store k x))) t e o = only_on t o
plain_only (lin.Op (op.Access (access.Alloc bs))) t e o = absurd (true≢false (sym e))
plain_only (lin.Op (op.Calling f)) t e o = absurd (true≢false (sym e))
plain_only (lin.Op (op.Leaving f)) t e o = absurd (true≢false (sym e))
plain_only (lin.Flow f) t e o = absurd (true≢false (sym e))

pub plain_tries : (f : LinOp) (tries : List ℕ) → is_plain f ≡ true → tries_after f tries ≡ tries
plain_tries (lin.Op f) tries e = refl
plain_tries (lin.Flow f) tries e = absurd (true≢false (sym e))

pub plain_quiet : (f : LinOp) → is_plain f ≡ true → may_raise f ≡ false
plain_quiet (lin.Op (op.Pure f)) e = refl
plain_quiet (lin.Op (op.Access (access.Load k o))) e = refl
plain_quiet (lin.Op (op.Access (access.Store k o))) e = refl
plain_quiet (lin.Op (op.Access (access.Alloc bs))) e = absurd (true≢false (sym e))
plain_quiet (lin.Op (op.Calling f)) e = absurd (true≢false (sym e))
plain_quiet (lin.Op (op.Leaving f)) e = absurd (true≢false (sym e))
plain_quiet (lin.Flow f) e = absurd (true≢false (sym e))

pub plain_spares : (f : LinOp) → is_plain f ≡ true → destroyed_by f ≡ Nothing
plain_spares (lin.Op (op.Pure f)) e = refl
plain_spares (lin.Op (op.Access a)) e = refl
plain_spares (lin.Op (op.Calling f)) e = absurd (true≢false (sym e))
plain_spares (lin.Op (op.Leaving f)) e = absurd (true≢false (sym e))
plain_spares (lin.Flow f) e = absurd (true≢false (sym e))

pub plain_label : (l : ℕ) (f : LinOp) → is_plain f ≡ true → has_label l f ≡ false
plain_label l (lin.Op f) e = refl
plain_label l (lin.Flow f) e = absurd (true≢false (sym e))

-- ---- reads and writes

abbrev pub spot : Loc → Comp → Spot
spot l t = record { loc = l; comp = t }

same_self : (l : Loc) → l ≢ loc.Unset → same_loc l l ≡ true
same_self (loc.Machine n) out = eq-eqb n n refl
same_self (loc.Slot n) out = eq-eqb n n refl
same_self loc.Unset out = absurd (out refl)

found : (l : Loc) (t : Comp) (ss : List Spot) → l ≢ loc.Unset → IsIn (spot l t) ss → is_among_spots l ss ≡ true
found l t _ out (is_first {xs = xs}) = ap (λ b. b || is_among_spots l xs) (same_self l out)
found l t _ out (is_later {y = y} {xs = xs} z) = by (same_loc y.loc l) (found l t xs out z)
  where
    by : (b : Bool) → is_among_spots l xs ≡ true → (b || is_among_spots l xs) ≡ true
    by true e = refl
    by false e = e

-- two lists that name one location meet
pub both_name : (l : Loc) (t u : Comp) (ss ts : List Spot) → l ≢ loc.Unset → IsIn (spot l t) ss → IsIn (spot l u) ts → meet ss ts ≡ true
both_name l t u _ ts out (is_first {xs = xs}) z = ap (λ b. b || meet xs ts) (found l u ts out z)
both_name l t u _ ts out (is_later {y = y} {xs = xs} w) z = by (is_among_spots y.loc ts) (both_name l t u xs ts out w z)
  where
    by : (b : Bool) → meet xs ts ≡ true → (b || meet xs ts) ≡ true
    by true e = refl
    by false e = e

abbrev pub DoesWrite : Line → Loc → Type 0
DoesWrite i l = (t : Comp) × Contains i.results (spot l t)

pub writes_result : (i : Line) (l : Loc) → is_plain i.op ≡ true → Writes i l → DoesWrite i l
writes_result i l p w =
    ⊎_elim (λ y. y) (λ d. absurd (none l (ap (λ k. is_destroyed k l) (sym (plain_spares i.op p)) ∙ d))) w
  where
    none : (l : Loc) → is_destroyed Nothing l ≡ true → ⊥
    none (loc.Machine n) e = true≢false (sym e)
    none (loc.Slot n) e = true≢false (sym e)
    none loc.Unset e = true≢false (sym e)

module _ (l : Loc) (out : l ≢ loc.Unset) where
  -- neither reads what the other writes
  pub reader_free : (i j : Line) (t : Comp) → is_plain j.op ≡ true → depends i j ≡ false → ReadsLocationAs l t i → Writes j l → ⊥
  reader_free i j t p free r w =
      let y = writes_result j l p w in
      let o = or_parts (meet j.results i.args) _ free in
      true≢false (sym (both_name l y.0 t j.results i.args out (in_of (spot l y.0) j.results y.1) (in_of (spot l t) i.args r)) ∙ o.0)

  pub writer_free : (i j : Line) (t : Comp) → is_plain i.op ≡ true → depends i j ≡ false → ReadsLocationAs l t j → Writes i l → ⊥
  writer_free i j t p free r w =
      let y = writes_result i l p w in
      let touch : Bool = (is_store j.op && is_access i.op) || (is_access j.op && is_store i.op) in
      let o = or_parts (meet j.results i.args) (meet j.args i.results || (meet j.results i.results || touch)) free in
      let q = or_parts (meet j.args i.results) (meet j.results i.results || touch) o.1 in
      true≢false (sym (both_name l t y.0 j.args i.results out (in_of (spot l t) j.args r) (in_of (spot l y.0) i.results y.1)) ∙ q.0)

  -- ---- a run reads the location before it writes it, or does not write it

  pub data First (t : Comp) : List Line → Type 0 where
    reads_it : {i : Line} {is : List Line} → ReadsLocationAs l t i → First t (i ∷ is)
    past : {i : Line} {is : List Line} → (Writes i l → ⊥) → First t is → First t (i ∷ is)

  pub data Unwritten : List Line → Type 0 where
    none : Unwritten []
    one : {i : Line} {is : List Line} → (Writes i l → ⊥) → Unwritten is → Unwritten (i ∷ is)

  -- ---- among lines before, of which i depends on none

  first_put : (t : Comp) (before : List Line) (i : Line) (after : List Line) → (Writes i l → ⊥) → First t (before ++ after) → First t (before ++ i ∷ after)
  first_put t [] i after free f = past free f
  first_put t (b ∷ bs) i after free (reads_it r) = reads_it r
  first_put t (b ∷ bs) i after free (past w f) = past w (first_put t bs i after free f)

  first_read : (t : Comp) (before : List Line) (i : Line) (after : List Line) → are_plain before ≡ true → depends_on_none i before ≡ true → ReadsLocationAs l t i → First t (before ++ i ∷ after)
  first_read t [] i after p d r = reads_it r
  first_read t (b ∷ bs) i after p d r =
      past (reader_free i b t (and_left _ _ p) (not_true _ (and_left _ _ d)) r) (first_read t bs i after (and_right _ _ p) (and_right _ _ d) r)

  unwritten_put : (before : List Line) (i : Line) (after : List Line) → (Writes i l → ⊥) → Unwritten (before ++ after) → Unwritten (before ++ i ∷ after)
  unwritten_put [] i after free u = one free u
  unwritten_put (b ∷ bs) i after free (one w u) = one w (unwritten_put bs i after free u)

  pub others_plain : (before : List Line) (i : Line) (after : List Line) → are_plain (before ++ i ∷ after) ≡ true → are_plain (before ++ after) ≡ true
  others_plain before i after p = plain_both before after (plain_left before (i ∷ after) p) (and_right _ _ (plain_right before (i ∷ after) p))

  -- the old run reads it first where the new one does
  pub first_back : (t : Comp) (xs ys : List Line) → Reorders xs ys → are_plain xs ≡ true → First t ys → First t xs
  first_back t _ _ nothing p f = f
  first_back t _ _ (takes before i after {others = others} d r) p f = by f (λ g. first_back t (before ++ after) others r (others_plain before i after p) g)
    where
      by : First t (i ∷ others) → (First t others → First t (before ++ after)) → First t (before ++ i ∷ after)
      by (reads_it x) ih = first_read t before i after (plain_left before (i ∷ after) p) d x
      by (past w g) ih = first_put t before i after w (ih g)

  pub unwritten_back : (xs ys : List Line) → Reorders xs ys → Unwritten ys → Unwritten xs
  unwritten_back _ _ nothing u = u
  unwritten_back _ _ (takes before i after {others = others} d r) u = by u (λ g. unwritten_back (before ++ after) others r g)
    where
      by : Unwritten (i ∷ others) → (Unwritten others → Unwritten (before ++ after)) → Unwritten (before ++ i ∷ after)
      by (one w g) ih = unwritten_put before i after w (ih g)

  -- and the other way
  pub data Cut (t : Comp) (before : List Line) (i : Line) (after : List Line) : Type 0 where
    cut_read : ReadsLocationAs l t i → Cut t before i after
    cut_past : (Writes i l → ⊥) → First t (before ++ after) → Cut t before i after

  pub cut : (t : Comp) (before : List Line) (i : Line) (after : List Line) → is_plain i.op ≡ true → depends_on_none i before ≡ true → First t (before ++ i ∷ after) → Cut t before i after
  cut t [] i after p d (reads_it r) = cut_read r
  cut t [] i after p d (past w f) = cut_past w f
  cut t (b ∷ bs) i after p d (reads_it r) = cut_past (writer_free i b t p (not_true _ (and_left _ _ d)) r) (reads_it r)
  cut t (b ∷ bs) i after p d (past w f) = by (cut t bs i after p (and_right _ _ d) f)
    where
      by : Cut t bs i after → Cut t (b ∷ bs) i after
      by (cut_read r) = cut_read r
      by (cut_past v g) = cut_past v (past w g)

  pub first_forth : (t : Comp) (xs ys : List Line) → Reorders xs ys → are_plain xs ≡ true → First t xs → First t ys
  first_forth t _ _ nothing p f = f
  first_forth t _ _ (takes before i after {others = others} d r) p f =
      by (cut t before i after (and_left _ _ (plain_right before (i ∷ after) p)) d f) (λ g. first_forth t (before ++ after) others r (others_plain before i after p) g)
    where
      by : Cut t before i after → (First t (before ++ after) → First t others) → First t (i ∷ others)
      by (cut_read x) ih = reads_it x
      by (cut_past w g) ih = past w (ih g)

  pub unwritten_take : (before : List Line) (i : Line) (after : List Line) → Unwritten (before ++ i ∷ after) → (Writes i l → ⊥) × Unwritten (before ++ after)
  unwritten_take [] i after (one w u) = (w, u)
  unwritten_take (b ∷ bs) i after (one w u) = let y = unwritten_take bs i after u in (y.0, one w y.1)

  pub unwritten_forth : (xs ys : List Line) → Reorders xs ys → Unwritten xs → Unwritten ys
  unwritten_forth _ _ nothing u = u
  unwritten_forth _ _ (takes before i after {others = others} d r) u =
      let y = unwritten_take before i after u in one y.0 (unwritten_forth (before ++ after) others r y.1)

  -- ---- along a run

  module _ (m : Lin) (t : Comp) where
    step_live : (i : Line) (next : List Line) (tries : List ℕ) → is_plain i.op ≡ true → (Writes i l → ⊥) → Live m l t next tries → Live m l t (i ∷ next) tries
    step_live i next tries p w v = on w (walks.goes On (plain_on i.op p)) (subst (Live m l t next) (sym (plain_tries i.op tries p)) v)

    pub first_live : (xs is : List Line) (tries : List ℕ) → are_plain xs ≡ true → First t xs → Live m l t (xs ++ is) tries
    first_live _ is tries p (reads_it r) = read r
    first_live _ is tries p (past {i = i} {is = xs} w f) = step_live i (xs ++ is) tries (and_left _ _ p) w (first_live xs is tries (and_right _ _ p) f)

    pub unwritten_live : (xs is : List Line) (tries : List ℕ) → are_plain xs ≡ true → Unwritten xs → Live m l t is tries → Live m l t (xs ++ is) tries
    unwritten_live _ is tries p none v = v
    unwritten_live _ is tries p (one {i = i} {is = xs} w u) v = step_live i (xs ++ is) tries (and_left _ _ p) w (unwritten_live xs is tries (and_right _ _ p) u v)

-- ---- labels

label_past : (l : ℕ) (xs is : List Line) → are_plain xs ≡ true → after_label l (xs ++ is) ≡ after_label l is
label_past l [] is p = refl
label_past l (x ∷ xs) is p =
    ap (λ b. cond b (xs ++ is) (after_label l (xs ++ is))) (plain_label l x.op (and_left _ _ p)) ∙ label_past l xs is (and_right _ _ p)

pub rest_label : (l : ℕ) (is js : List Line) → Rest is js → Ordered (after_label l is) (after_label l js)
rest_label l _ _ rest_ends = ordered [] [] [] [] refl nothing rest_ends
rest_label l _ _ (rest_line i xs ys {is = is} {js = js} n p r t) = by (has_label l i.op) (rest_label l is js t)
  where
    plain_ys : (xs ys : List Line) → Reorders xs ys → are_plain xs ≡ true → are_plain ys ≡ true
    plain_ys _ _ nothing p = p
    plain_ys _ _ (takes before i after {others = others} d r) p =
        let q = plain_right before (i ∷ after) p in
        plain_both (i ∷ []) others (ap (λ b. b && true) (and_left _ _ q))
        (plain_ys (before ++ after) others r (plain_both before after (plain_left before (i ∷ after) p) (and_right _ _ q)))

    by : (b : Bool) → Ordered (after_label l is) (after_label l js) → Ordered (cond b (xs ++ is) (after_label l (xs ++ is))) (cond b (ys ++ js) (after_label l (ys ++ js)))
    by true ih = ordered xs ys is js p r t
    by false ih =
        subst (λ k. Ordered k (after_label l (ys ++ js))) (sym (label_past l xs is p))
        (subst (Ordered (after_label l is)) (sym (label_past l ys js (plain_ys xs ys r p))) ih)

pub ordered_label : (l : ℕ) (is js : List Line) → Ordered is js → Ordered (after_label l is) (after_label l js)
ordered_label l _ _ (ordered xs ys is js p r t) =
    subst (λ k. Ordered k (after_label l (ys ++ js))) (sym (label_past l xs is p))
    (subst (Ordered (after_label l is)) (sym (label_past l ys js (plain_new xs ys r p))) (rest_label l is js t))
  where
    plain_new : (xs ys : List Line) → Reorders xs ys → are_plain xs ≡ true → are_plain ys ≡ true
    plain_new _ _ nothing p = p
    plain_new _ _ (takes before i after {others = others} d r) p =
        let q = plain_right before (i ∷ after) p in
        plain_both (i ∷ []) others (ap (λ b. b && true) (and_left _ _ q))
        (plain_new (before ++ after) others r (plain_both before after (plain_left before (i ∷ after) p) (and_right _ _ q)))
