-- Positions that come in.
use Rattle.std.proofs.Common.{◌≡◌, ◌≢◌, ℕ, ◌+◌, ◌<◌, ◌≤◌, ◌⊎◌, inl, inr, ⊎_elim, List, [], ◌∷◌, ◌++◌, Some, length, map, take, set, get_or, refl, sym, ap, ◌∙◌, subst, arith}
use Rattle.std.specs.List.{Contains}
use Rattle.std.specs.Prelude.{slice_get, slice_index}
use Rattle.std.proofs.lemmas.Bool.{cases_eq, cases_lt}
use Rattle.std.proofs.lemmas.List.{length-set, length-map, map-set, get_or-map, get_or-set_same, get_or-set_other, get_or_append_left, get_or_push, get_or_default, length_push, take_more, take_all, map-append}
use Rattle.std.proofs.lemmas.List.Elements.{Contains-append_left, Contains-append_right, Contains-push}
use Rattle.lin_laws.specs.Graph.{position, AreNumbersOf}
use Rattle.lin_laws.specs.declared.position.Position.{Position}
use Rattle.bs_words.proofs.Lists.{first_in, pushed_kept, pushed_here, pushed_cases}
use Rattle.lin_flow.specs.Nodes.{Landed}
use Rattle.lin_flow.specs.Search.{all_positions, groups_of, search_members, HasMember, AreGrouped, Grown, PositionEntered, IsThere, HasFirst}
use Rattle.lin_flow.specs.declared.search.PositionGroup as group
use Rattle.lin_flow.specs.declared.search.Search.{Search}

-- ---- groups

members_same : (gs : List group.PositionGroup) (k : ℕ) (g : group.PositionGroup) → k < length gs → search_members (set gs k g) k ≡ g.members.items
members_same gs k g within =
    let f : group.PositionGroup → List ℕ = λ x. x.members.items in
    let w : k < length (map f gs) = omega (arith, length-map gs f, within) in
    ap (λ (l : List (List ℕ)). get_or l k []) (map-set f gs k g) ∙ get_or-set_same (map f gs) k (f g) [] w

members_other : (gs : List group.PositionGroup) (k j : ℕ) (g : group.PositionGroup) → j ≢ k → search_members (set gs k g) j ≡ search_members gs j
members_other gs k j g ne =
    let f : group.PositionGroup → List ℕ = λ x. x.members.items in
    ap (λ (l : List (List ℕ)). get_or l j []) (map-set f gs k g) ∙ get_or-set_other (map f gs) k j (f g) [] ne

members_read : (gs : List group.PositionGroup) (k : ℕ) (g : group.PositionGroup) → k < length gs → g ≡ get_or gs k g → search_members gs k ≡ g.members.items
members_read gs k g within read =
    let f : group.PositionGroup → List ℕ = λ x. x.members.items in
    get_or-map f gs k g [] within ∙ ap f (sym read)

pub has_member : (old new : List group.PositionGroup) (k member : ℕ) (g g' : group.PositionGroup) → k < length old → g ≡ get_or old k g →
    g'.members.items ≡ g.members.items ++ member ∷ [] → new ≡ set old k g' → HasMember old new k member
has_member old new k member g g' within read more is =
    let here : search_members new k ≡ search_members old k ++ member ∷ [] =
    ap (λ (l : List group.PositionGroup). search_members l k) is
    ∙ (members_same old k g' within ∙ (more ∙ ap (λ (l : List ℕ). l ++ member ∷ []) (sym (members_read old k g within read)))) in
    record {
      len = ap length is ∙ length-set old k g';
      kept = λ j q c.
          ⊎_elim
          (λ (e : j ≡ k).
          subst (λ n. Contains (search_members new n) q) (sym e)
          (subst (λ xs. Contains xs q) (sym here)
          (Contains-append_left (search_members old k) (member ∷ []) q (subst (λ n. Contains (search_members old n) q) e c))))
          (λ (ne : j ≢ k).
          subst (λ xs. Contains xs q) (sym (ap (λ (l : List group.PositionGroup). search_members l j) is ∙ members_other old k j g' ne)) c)
          (cases_eq j k);
      here = subst (λ xs. Contains xs member) (sym here) (Contains-push (search_members old k) member);
    }

-- ---- one more position

pub entered_new : (old new : Search) (y : Position) (number : ℕ) → length (all_positions old) < 4294967295 → all_positions new ≡ all_positions old ++ y ∷ [] →
    number ≡ length (all_positions old) → HasMember (groups_of old) (groups_of new) y.place number → PositionEntered old new y number
entered_new old new y number few is at has =
    record {
      grown = record {
        kept = λ q x e. subst (λ xs. slice_get xs q ≡ Some x) (sym is) (pushed_kept (all_positions old) y x q e);
        fresh = λ q x e.
            ⊎_elim (λ f. inl f) (λ f. inr (subst (λ z. Contains (y ∷ []) z) f.1 (first_in y [])))
            (pushed_cases (all_positions old) y x q (subst (λ xs. slice_get xs q ≡ Some x) is e));
        len = has.len;
        grouped = λ g. record {
          grouped = λ q x e.
              ⊎_elim (λ f. has.kept x.place q (g.grouped q x f))
              (λ f.
              subst (λ (z : Position). Contains (search_members (groups_of new) z.place) q) f.1
              (subst (λ k. Contains (search_members (groups_of new) y.place) k) (at ∙ sym f.0) has.here))
              (pushed_cases (all_positions old) y x q (subst (λ xs. slice_get xs q ≡ Some x) is e));
        };
        countable = λ c. let len : length (all_positions new) ≡ length (all_positions old) + 1 = ap length is ∙ length_push (all_positions old) y in omega (arith, len, few);
      };
      here = subst (λ xs. slice_get xs number ≡ Some y) (sym is)
          (subst (λ k. slice_get (all_positions old ++ y ∷ []) k ≡ Some y) (sym at) (pushed_here (all_positions old) y));
    }

-- a position that had a number
pub entered_old : (s : Search) (y : Position) (number : ℕ) → slice_get (all_positions s) number ≡ Some y → PositionEntered s s y number
entered_old s y number e =
    record {
      grown = record { kept = λ q x f. f; fresh = λ q x f. inl f; len = refl; grouped = λ g. g; countable = λ c. c };
      here = e;
    }

pub found_at : (xs : List Position) (q p : ℕ) (ts : List ℕ) (x : Position) → slice_get xs q ≡ Some x → x.place ≡ p → x.tries ≡ ts →
    slice_get xs q ≡ Some (position p ts)
found_at xs q p ts x e f g = e ∙ ap (λ k. Some (position k x.tries)) f ∙ ap (λ zs. Some (position p zs)) g

-- ---- several

pub grown_none : (s : Search) → Grown s s []
grown_none s = record { kept = λ q x f. f; fresh = λ q x f. inl f; len = refl; grouped = λ g. g; countable = λ c. c }

pub grown_then : (a b c : Search) (ys zs : List Position) → Grown a b ys → Grown b c zs → Grown a c (ys ++ zs)
grown_then a b c ys zs g h =
    record {
      kept = λ q x e. h.kept q x (g.kept q x e);
      fresh = λ q x e.
          ⊎_elim
          (λ f. ⊎_elim (λ k. inl k) (λ k. inr (Contains-append_left ys zs x k)) (g.fresh q x f))
          (λ f. inr (Contains-append_right ys zs x f)) (h.fresh q x e);
      len = h.len ∙ g.len;
      grouped = λ k. h.grouped (g.grouped k);
      countable = λ k. h.countable (g.countable k);
    }

pub numbers_kept : (a b : Search) (ns : List ℕ) (ys zs : List Position) → Grown a b zs → AreNumbersOf (all_positions a) ns ys →
    AreNumbersOf (all_positions b) ns ys
numbers_kept a b ns ys zs g h =
    record { len = h.len; each = λ k d lt. g.kept (slice_index ns k) (get_or ys k d) (h.each k d lt) }

-- ---- the positions of some places

pub numbers_push : (all : List Position) (ns : List ℕ) (ys : List Position) (n : ℕ) (y : Position) → AreNumbersOf all ns ys →
    slice_get all n ≡ Some y → AreNumbersOf all (ns ++ n ∷ []) (ys ++ y ∷ [])
numbers_push all ns ys n y h e =
    record {
      len = length_push ns n ∙ ap (λ k. k + 1) h.len ∙ sym (length_push ys y);
      each = λ k d lt.
          let len = h.len in
          ⊎_elim
          (λ (b : k < length ys).
          let c : k < length ns = omega (arith, b, len) in
          ap (slice_get all) (get_or_append_left ns (n ∷ []) 0 k c) ∙ h.each k d b
          ∙ ap Some (sym (get_or_append_left ys (y ∷ []) d k b)))
          (λ (b : length ys ≤ k).
          let total : length (ys ++ y ∷ []) ≡ length ys + 1 = length_push ys y in
          let at : length ys ≡ k = omega (arith, b, lt, total) in
          let at_ns : length ns ≡ k = len ∙ at in
          ap (slice_get all) (get_or_push ns n 0 k at_ns) ∙ e ∙ ap Some (sym (get_or_push ys y d k at)))
          (cases_lt k (length ys));
    }

pub record Entering (old now : Search) (places tries : List ℕ) (i : ℕ) (ns : List ℕ) : Type 0 where
  pub grown : Grown old now (map (λ p. position p tries) (take i places))
  pub numbers : AreNumbersOf (all_positions now) ns (map (λ p. position p tries) (take i places))

pub entering_none : (s : Search) (places tries ns : List ℕ) → ns ≡ [] → Entering s s places tries 0 ns
entering_none s places tries ns e =
    record { grown = grown_none s; numbers = record { len = ap length e; each = λ k d lt. absurd (omega (arith, lt)) } }

pub entering_more : (old now new : Search) (places tries : List ℕ) (i p number : ℕ) (ns ms : List ℕ) → i < length places →
    p ≡ get_or places i 0 → Entering old now places tries i ns → PositionEntered now new (position p tries) number →
    ms ≡ ns ++ number ∷ [] → Entering old new places tries (i + 1) ms
entering_more old now new places tries i p number ns ms lt e h k is =
    let f : ℕ → Position = λ p. position p tries in
    let more : map f (take i places) ++ f p ∷ [] ≡ map f (take (i + 1) places) =
    ap (λ q. map f (take i places) ++ f q ∷ []) e ∙ sym (map-append f (take i places) (get_or places i 0 ∷ []))
    ∙ ap (map f) (sym (take_more places i 0 lt)) in
    record {
      grown = subst (Grown old new) more (grown_then old now new (map f (take i places)) (f p ∷ []) h.grown k.grown);
      numbers = subst (AreNumbersOf (all_positions new) ms) more
          (subst (λ xs. AreNumbersOf (all_positions new) xs (map f (take i places) ++ f p ∷ [])) (sym is)
          (numbers_push (all_positions new) ns (map f (take i places)) number (f p)
          (numbers_kept now new ns (map f (take i places)) (f p ∷ []) k.grown h.numbers) k.here));
    }

pub entering_all : (old new : Search) (places tries : List ℕ) (i : ℕ) (ns : List ℕ) → length places ≤ i →
    Entering old new places tries i ns →
    Grown old new (map (λ p. position p tries) places) × AreNumbersOf (all_positions new) ns (map (λ p. position p tries) places)
entering_all old new places tries i ns le h =
    let all = take_all i places le in (
      subst (λ xs. Grown old new (map (λ p. position p tries) xs)) all h.grown,
      subst (λ xs. AreNumbersOf (all_positions new) ns (map (λ p. position p tries) xs)) all h.numbers,
    )

-- ---- the first positions

pub none_first : (s : Search) (p first : ℕ) (items : List ℕ) (i : ℕ) → length items ≤ i → items ≡ search_members (groups_of s) p →
    ((k : ℕ) → k < i → slice_index items k < first → IsThere s p (slice_index items k) → ⊥) → AreGrouped s → HasFirst s p first → ⊥
none_first s p first items i le is none g h =
    let there = h.there in
    let c : Contains items h.number =
    subst (λ xs. Contains xs h.number) (sym is)
    (subst (λ k. Contains (search_members (groups_of s) k) h.number) there.place (g.grouped h.number there.found there.is)) in
    let lt = c.1 in
    let at : slice_index items c.0 ≡ h.number = get_or_default items c.0 0 h.number lt ∙ c.2 in
    none c.0 (omega (arith, lt, le)) (subst (λ k. k < first) (sym at) h.below) (subst (λ k. IsThere s p k) (sym at) there)

pub landed_none : (s : Search) (ns : List ℕ) → ns ≡ [] → Landed s s [] ns
landed_none s ns e =
    record { grown = grown_none s; numbers = record { len = ap length e; each = λ k d lt. absurd (omega (arith, lt)) } }

pub landed_one : (s new : Search) (y : Position) (number : ℕ) (ns ms : List ℕ) → ns ≡ [] → PositionEntered s new y number →
    ms ≡ ns ++ number ∷ [] → Landed s new (y ∷ []) ms
landed_one s new y number ns ms e k is =
    record {
      grown = k.grown;
      numbers = subst (λ xs. AreNumbersOf (all_positions new) xs (y ∷ [])) (sym is)
          (numbers_push (all_positions new) ns [] number y (record { len = ap length e; each = λ j d lt. absurd (omega (arith, lt)) }) k.here);
    }
