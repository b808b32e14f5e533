-- What is read after a line of a run that writes it, before it is written again, is so after that line in the new order.
use Rattle.std.proofs.Common.{◌≡◌, ◌≢◌, ℕ, Bool, true, false, ◌&&◌, ◌||◌, ◌⊎◌, inl, inr, ⊎_elim, List, [], ◌∷◌, ◌++◌, refl, sym, ◌∙◌, subst}
use Rattle.std.proofs.lemmas.Bool.{true≢false}
use Rattle.bs_words.specs.declared.types.Comp.{Comp}
use Rattle.bs_words.specs.declared.types.Loc.{Loc}
use Rattle.bs_words.specs.declared.types.Loc.TheVariants as loc
use Rattle.lin_ir.specs.Walks.{ReadsLocationAs, Writes, Live, StandsAsLine, here, below}
use Rattle.lin_ir.specs.declared.lin.Line.{Line}
use Rattle.lin_ir.specs.declared.lin.Lin.{Lin}
use Rattle.linearise_rules.proofs.Homes.{in_of}
use Rattle.schedule_rules.specs.Straight.{is_plain, is_store, is_access, meet, depends}
use Rattle.schedule_rules.specs.Orders.{depends_on_none, are_plain, Reorders, nothing, takes, Rest, Ordered}
use Rattle.schedule_rules.proofs.Reorder.{and_left, and_right, not_true, plain_left, plain_right, reorders_plain}
use Rattle.schedule_rules.proofs.Writes.{or_parts}
use Rattle.schedule_rules.proofs.Living.{spot, both_name, writes_result, reader_free, First, reads_it, past, Unwritten, one, others_plain, first_forth, unwritten_forth, unwritten_take, first_live, unwritten_live}
use Rattle.schedule_rules.proofs.Forth.{forth}

-- where a line stands among these
data Where (i : Line) (b before after : List Line) : Type 0 where
  in_front : (c : List Line) → StandsAsLine i c before → b ≡ c ++ after → Where i b before after
  behind_it : StandsAsLine i b after → Where i b before after

-- the first, or a later one
head_or : {i : Line} {b code : List Line} → StandsAsLine i b code → (x : Line) (xs : List Line) → code ≡ x ∷ xs → ((i ≡ x) × (b ≡ xs)) ⊎ StandsAsLine i b xs
head_or here x xs e = inl (cc, cc)
head_or {i} {b} (below {is = is} s) x xs e = inr (subst (StandsAsLine i b) (tail e) s)
  where
    tail : {y : Line} → y ∷ is ≡ x ∷ xs → is ≡ xs
    tail e = cc

where_of : (i : Line) (b before after : List Line) → StandsAsLine i b (before ++ after) → Where i b before after
where_of i b [] after s = behind_it s
where_of i b (x ∷ xs) after s = by (head_or s x (xs ++ after) refl) (λ z. where_of i b xs after z)
  where
    wider : Where i b xs after → Where i b (x ∷ xs) after
    wider (in_front c w e) = in_front c (below w) e
    wider (behind_it w) = behind_it w

    by : ((i ≡ x) × (b ≡ xs ++ after)) ⊎ StandsAsLine i b (xs ++ after) → (StandsAsLine i b (xs ++ after) → Where i b xs after) → Where i b (x ∷ xs) after
    by (inl y) ih = in_front xs (subst (λ (k : Line). StandsAsLine i xs (k ∷ xs)) y.0 here) y.1
    by (inr z) ih = wider (ih z)

stands_left : {i : Line} {c xs : List Line} (ys : List Line) → StandsAsLine i c xs → StandsAsLine i (c ++ ys) (xs ++ ys)
stands_left ys here = here
stands_left ys (below s) = below (stands_left ys s)

stands_right : {i : Line} {c ys : List Line} (xs : List Line) → StandsAsLine i c ys → StandsAsLine i c (xs ++ ys)
stands_right [] s = s
stands_right (x ∷ xs) s = below (stands_right xs s)

-- one of which the line depends on none
free_of : (j : Line) {i : Line} {c xs : List Line} → StandsAsLine i c xs → depends_on_none j xs ≡ true → depends j i ≡ false
free_of j here d = not_true _ (and_left _ _ d)
free_of j (below s) d = free_of j s (and_right _ _ d)

plain_of : {i : Line} {c xs : List Line} → StandsAsLine i c xs → are_plain xs ≡ true → is_plain i.op ≡ true
plain_of here p = and_left _ _ p
plain_of (below s) p = plain_of s (and_right _ _ p)

module _ (l : Loc) (out : l ≢ loc.Unset) where
  -- two lines that are free of each other do not both write it
  writers_free : (j i : Line) → is_plain j.op ≡ true → is_plain i.op ≡ true → depends j i ≡ false → Writes j l → Writes i l → ⊥
  writers_free j i pj pi free wj wi =
      let y = writes_result j l pj wj in
      let z = writes_result i l pi wi in
      let touch : Bool = (is_store i.op && is_access j.op) || (is_access i.op && is_store j.op) in
      let o = or_parts (meet i.results j.args) (meet i.args j.results || (meet i.results j.results || touch)) free in
      let q = or_parts (meet i.args j.results) (meet i.results j.results || touch) o.1 in
      let w = or_parts (meet i.results j.results) touch q.1 in
      true≢false (sym (both_name l z.0 y.0 i.results j.results out (in_of (spot l z.0) i.results z.1) (in_of (spot l y.0) j.results y.1)) ∙ w.0)

  -- lines before one that writes it, of which that depends on none, do not write it
  before_past : (t : Comp) (before : List Line) (j : Line) (after : List Line) → are_plain before ≡ true → is_plain j.op ≡ true → depends_on_none j before ≡ true → Writes j l →
      First l out t after → First l out t (before ++ after)
  before_past t [] j after p q d w f = f
  before_past t (b ∷ bs) j after p q d w f =
      past (λ x. writers_free j b q (and_left _ _ p) (not_true _ (and_left _ _ d)) w x) (before_past t bs j after (and_right _ _ p) q (and_right _ _ d) w f)

  before_unwritten : (before : List Line) (j : Line) (after : List Line) → are_plain before ≡ true → is_plain j.op ≡ true → depends_on_none j before ≡ true → Writes j l →
      Unwritten l out after → Unwritten l out (before ++ after)
  before_unwritten [] j after p q d w u = u
  before_unwritten (b ∷ bs) j after p q d w u =
      one (λ x. writers_free j b q (and_left _ _ p) (not_true _ (and_left _ _ d)) w x) (before_unwritten bs j after (and_right _ _ p) q (and_right _ _ d) w u)

  -- one that neither reads nor writes it may go
  first_drop : (t : Comp) (c : List Line) (j : Line) (after : List Line) → (ReadsLocationAs l t j → ⊥) → First l out t (c ++ j ∷ after) → First l out t (c ++ after)
  first_drop t [] j after unread (reads_it r) = absurd (unread r)
  first_drop t [] j after unread (past w f) = f
  first_drop t (x ∷ c) j after unread (reads_it r) = reads_it r
  first_drop t (x ∷ c) j after unread (past w f) = past w (first_drop t c j after unread f)

  pub record Behind (i : Line) (xs later : List Line) : Type 0 where
    pub others : List Line
    pub stands : StandsAsLine i others xs
    pub first : Writes i l → (t : Comp) → First l out t others → First l out t later
    pub unwritten : Writes i l → Unwritten l out others → Unwritten l out later

  -- A line of the new order is a line of the old. What that has behind it, read before it is written or not written, it has here.
  pub behind : (xs ys : List Line) → Reorders xs ys → are_plain xs ≡ true → (i : Line) (later : List Line) → StandsAsLine i later ys → Behind i xs later
  behind _ _ nothing p i later s = elim s [ ]
  behind _ _ (takes before j after {others = others} d r) p i later s =
      by i later s (λ i later z. behind (before ++ after) others r (others_plain l out before j after p) i later z)
    where
      pb : are_plain before ≡ true
      pb = plain_left before (j ∷ after) p

      pj : is_plain j.op ≡ true
      pj = and_left _ _ (plain_right before (j ∷ after) p)

      po : are_plain (before ++ after) ≡ true
      po = others_plain l out before j after p

      moved : (i : Line) (later : List Line) → Behind i (before ++ after) later → Behind i (before ++ j ∷ after) later
      moved i later h = at (where_of i h.others before after h.stands)
        where
          at : Where i h.others before after → Behind i (before ++ j ∷ after) later
          at (in_front c w e) =
              record {
                others = c ++ j ∷ after;
                stands = stands_left (j ∷ after) w;
                first = λ x t f. h.first x t (subst (First l out t) (sym e)
                    (first_drop t c j after (λ y. reader_free l out j i t (plain_of w pb) (free_of j w d) y x) f));
                unwritten = λ x u. h.unwritten x (subst (Unwritten l out) (sym e) (unwritten_take l out c j after u).1);
              }
          at (behind_it w) = record { others = h.others; stands = stands_right before (below w); first = h.first; unwritten = h.unwritten }

      at_head : Behind j (before ++ j ∷ after) others
      at_head =
          record {
            others = after;
            stands = stands_right before here;
            first = λ w t f. first_forth l out t (before ++ after) others r po (before_past t before j after pb pj d w f);
            unwritten = λ w u. unwritten_forth l out (before ++ after) others r (before_unwritten before j after pb pj d w u);
          }

      by : (i : Line) (later : List Line) → StandsAsLine i later (j ∷ others) → ((i : Line) (later : List Line) → StandsAsLine i later others → Behind i (before ++ after) later) → Behind i (before ++ j ∷ after) later
      by i later s ih =
          ⊎_elim (λ y. subst (λ k. Behind i (before ++ j ∷ after) k) (sym y.1) (subst (λ (k : Line). Behind k (before ++ j ∷ after) others) (sym y.0) at_head))
          (λ z. moved i later (ih i later z)) (head_or s j others refl)

stands_plain : {i : Line} {c xs : List Line} → StandsAsLine i c xs → are_plain xs ≡ true → are_plain c ≡ true
stands_plain here p = and_right _ _ p
stands_plain (below s) p = stands_plain s (and_right _ _ p)

-- Live behind a line of a run that writes it, in the new function as in the old. So a move from a location to itself that was for a
-- type still is.
pub live_behind : (m r : Lin) → Ordered m.code r.code → (l : Loc) (out : l ≢ loc.Unset) (xs ys is js : List Line) → are_plain xs ≡ true → (o : Reorders xs ys) → Rest is js →
    (i : Line) (later : List Line) → StandsAsLine i later ys → Writes i l → (others : List Line) × StandsAsLine i others xs ×
    ((t : Comp) (tries : List ℕ) → Live m l t (others ++ is) tries → Live r l t (later ++ js) tries)
live_behind m r whole l out xs ys is js p o rest i later s w =
    let b = behind l out xs ys o p i later s in
    let later_plain : are_plain later ≡ true = stands_plain s (reorders_plain xs ys o p) in (
      b.others,
      b.stands,
      λ t tries v.
          ⊎_elim (λ f. first_live l out r t later js tries later_plain (b.first w t f))
          (λ u. unwritten_live l out r t later js tries later_plain (b.unwritten w u.0) u.1)
          (forth m r whole l t out v b.others is js (stands_plain b.stands p) rest refl),
    )
