-- Frame points, and the places of the flow graph for them.
use Rattle.std.proofs.Common.{◌≡◌, ℕ, suc, ◌+◌, ◌<◌, ◌≤◌, Bool, true, false, cond, ◌⊎◌, inl, inr, ⊎_elim, List, [], ◌∷◌, ◌++◌, Some, length, drop, get_or, refl, sym, ap, ◌∙◌, subst, arith}
use Rattle.std.specs.List.{All, AllPairs, Contains}
use Rattle.std.specs.Prelude.{slice_get, slice_index}
use Rattle.std.proofs.lemmas.Bool.{cases_lt}
use Rattle.std.proofs.lemmas.List.{length_push, get_or_default, drop_more}
use Rattle.std.proofs.lemmas.List.Elements.{All-nil, All-push, All-weaker, Contains-append_left, Contains-append_right, Contains-append_cases}
use Rattle.std.proofs.lemmas.List.Quantifiers.{all_pairs_push}
use Rattle.std.proofs.lemmas.Option.{slice_get_within}
use Rattle.bs_words.specs.Contents.{contents}
use Rattle.bs_words.proofs.Lists.{none_in, got, drop_none, same_some, pushed_kept, pushed_here, pushed_cases}
use Rattle.dataflow.specs.declared.flow.Place as place
use Rattle.lin_ir.specs.Descriptors.{frame_point_count}
use Rattle.lin_ir.specs.Meaning.{passes_frame}
use Rattle.lin_ir.specs.Walks.{Reached, Traps, by_walk, unreached}
use Rattle.lin_ir.specs.declared.lin.Line.{Line}
use Rattle.lin_ir.specs.declared.lin.LinOp.{LinOp}
use Rattle.lin_ir.specs.declared.lin.Lin.{Lin}
use Rattle.lin_laws.proofs.Numbers.{are_writes}
use Rattle.lin_laws.proofs.Places.{drop_is, place_drop, number_is, number_all}
use Rattle.lin_laws.specs.Graph.{line_index, position, steps, raise_steps, AreWritesAt, ArePositionNodes, IsNodeAfterPoint}
use Rattle.lin_laws.specs.declared.position.Position.{Position}
use Rattle.lin_flow.proofs.Visiting.{results_numbered}
use Rattle.frame_tables.specs.Points.{IsOneOf, IsChosenPosition, IsChoice, HasTraps, edges_of, ComesFrom, Gathers, IsGathered, IsAfterNode, IsFramePoint, IsRooted, HasRoots, IsSearchedForPoints, IsPoint, ArePoints}
use Rattle.lin_flow.specs.Search.{all_positions, groups_of, search_members, PositionEntered, HasFirst}
use Rattle.frame_tables.specs.declared.after.Choice.{Choice}
use Rattle.frame_tables.specs.declared.after.Point.{Point}
use Rattle.lin_flow.specs.declared.search.Search.{Search}

-- ---- which positions are those of a frame point

module _ (m : Lin) (s : Search) (reached : ℕ) (nodes : List place.Place) (h : IsSearchedForPoints m s reached nodes) (p : ℕ) (c : Choice)
    (choice : IsChoice s p reached c) (point : IsFramePoint m p) where
  here : line_index m (drop p m.code) ≡ p
  here =
      let d = drop_is p m.code point.line point.next point.at in let lt = d.0 in
      place_drop p m.code (omega (arith, lt))

  -- a walk that comes there has one of the first positions
  first_of_walk : (tries : List ℕ) → Reached m (drop p m.code) tries →
      (q : ℕ) × (q < reached) × (slice_get (all_positions s) q ≡ Some (position p tries))
  first_of_walk tries r =
      let f = h.complete (drop p m.code) tries r in
      (f.0, f.1, f.2 ∙ ap (λ k. Some (position k tries)) here)

  first_is : (tries : List ℕ) → Reached m (drop p m.code) tries → HasFirst s p reached
  first_is tries r =
      let f = first_of_walk tries r in
      record { number = f.0; below = f.1; there = record { found = position p tries; is = f.2; place = refl } }

  walk_of_first : HasFirst s p reached → (tries : List ℕ) × Reached m (drop p m.code) tries
  walk_of_first f =
      let there = f.there in (
        there.found.tries,
        subst (λ k. Reached m (drop k m.code) there.found.tries) there.place (h.walked f.number there.found f.below there.is),
      )

  pub chosen_place : (n : ℕ) (x : IsChosenPosition s c n) → x.found.place ≡ p
  chosen_place n x = let a = x.asked in a.0 ∙ choice.place

  chosen_by : (b : Bool) → c.seen ≡ b → (n : ℕ) (x : IsChosenPosition s c n) → IsOneOf b c.reached n x.found.tries →
      Traps m (drop p m.code) x.found.tries
  chosen_by true e n x lt =
      by_walk (subst (λ k. Reached m (drop k m.code) x.found.tries) (chosen_place n x)
      (h.walked n x.found (subst (λ k. n < k) choice.first lt) x.is))
  chosen_by false e n x none =
      subst (Traps m (drop p m.code)) (sym none)
      (unreached (λ ts r. choice.no e h.grouped (first_is ts r)))

  pub chosen_traps : (n : ℕ) (x : IsChosenPosition s c n) → Traps m (drop p m.code) x.found.tries
  chosen_traps n x = let a = x.asked in chosen_by c.seen refl n x a.1

  -- a position that is there is among those that are looked at
  in_group : (q : ℕ) (tries : List ℕ) → slice_get (all_positions s) q ≡ Some (position p tries) → Contains (search_members (groups_of s) c.place) q
  in_group q tries e =
      subst (λ k. Contains (search_members (groups_of s) k) q) (sym choice.place) (h.grouped.grouped q (position p tries) e)

  pub record Chooses (tries : List ℕ) : Type 0 where
    pub number : ℕ
    pub among : Contains (search_members (groups_of s) c.place) number
    pub chosen : IsChosenPosition s c number
    pub is : chosen.found ≡ position p tries

  choose : (q : ℕ) (tries : List ℕ) → slice_get (all_positions s) q ≡ Some (position p tries) → IsOneOf c.seen c.reached q tries → Chooses tries
  choose q tries e one =
      record {
        number = q;
        among = in_group q tries e;
        chosen = record { found = position p tries; is = e; asked = (sym choice.place, one) };
        is = refl;
      }

  walked_by : (b : Bool) → c.seen ≡ b → (q : ℕ) (tries : List ℕ) → q < reached → slice_get (all_positions s) q ≡ Some (position p tries) →
      Chooses tries
  walked_by true e q tries lt f =
      choose q tries f (subst (λ b. IsOneOf b c.reached q tries) (sym e) (subst (λ k. q < k) (sym choice.first) lt))
  walked_by false e q tries lt f =
      absurd (choice.no e h.grouped
      (record { number = q; below = lt; there = record { found = position p tries; is = f; place = refl } }))

  rooted_by : (b : Bool) → c.seen ≡ b → (HasFirst s p reached → ⊥) → (q : ℕ) → slice_get (all_positions s) q ≡ Some (position p []) →
      Chooses []
  rooted_by true e none q f = absurd (none (choice.yes e))
  rooted_by false e none q f = choose q [] f (subst (λ b. IsOneOf b c.reached q []) (sym e) refl)

  pub traps_chosen : (tries : List ℕ) → Traps m (drop p m.code) tries → Chooses tries
  traps_chosen tries (by_walk r) = let f = first_of_walk tries r in walked_by c.seen refl f.0 tries f.1 f.2
  traps_chosen tries (unreached none) =
      let no : HasFirst s p reached → ⊥ = λ f. let w = walk_of_first f in none w.0 w.1 in
      ⊎_elim (λ f. rooted_by c.seen refl no f.0 f.1) (λ f. absurd (no f)) (h.roots p point)

  -- one is chosen
  some_by : (b : Bool) → c.seen ≡ b → (tries : List ℕ) × Chooses tries
  some_by true e =
      let f = choice.yes e in let w = walk_of_first f in
      (w.0, traps_chosen w.0 (by_walk w.1))
  some_by false e =
      ⊎_elim (λ f. ([], rooted_by c.seen refl (λ g. choice.no e h.grouped g) f.0 f.1)) (λ f. absurd (choice.no e h.grouped f)) (h.roots p point)

  pub some_chosen : (tries : List ℕ) × Chooses tries
  some_chosen = some_by c.seen refl

  -- ---- its place of the graph

  module _ (now : List place.Place) (len : length (all_positions s) ≤ length now) (are : ArePositionNodes m (m.slots + 32) (all_positions s) now)
      (node : place.Place) (a : IsAfterNode s now c point.line node) where
    found_is : (n : ℕ) (x : IsChosenPosition s c n) → x.found ≡ position p x.found.tries
    found_is n x = ap (λ k. position k x.found.tries) (chosen_place n x)

    node_at : (n : ℕ) (x : Position) → slice_get (all_positions s) n ≡ Some x → (nd : place.Place) × (slice_get now n ≡ Some nd)
    node_at n x e = let lt : n < length (all_positions s) = slice_get_within (all_positions s) n x e in got now n (omega (arith, lt, len))

    abbrev Leads : (Lin → Position → List Position) → ℕ → Type 0
    Leads to q = (tries : List ℕ) × Traps m (drop p m.code) tries × ((y : Position) ×
        Contains (to m (position p tries)) y × (slice_get (all_positions s) q ≡ Some y))

    next_is : (q : ℕ) → Contains (contents node.next) q → Leads steps q
    next_is q k =
        let g = a.next.is q k in
        let from = g.1 in
        let found = from.chosen.found in
        let nd = are g.0 found from.node from.chosen.is from.is in
        let y = number_is (all_positions s) (contents from.node.next) (steps m found) q nd.next from.edge in (
          found.tries,
          chosen_traps g.0 from.chosen,
          (y.0, subst (λ (z : Position). Contains (steps m z) y.0) (found_is g.0 from.chosen) y.1, y.2),
        )

    aside_is : (q : ℕ) → Contains (contents node.aside) q → Leads raise_steps q
    aside_is q k =
        let g = a.aside.is q k in
        let from = g.1 in
        let found = from.chosen.found in
        let nd = are g.0 found from.node from.chosen.is from.is in
        let y = number_is (all_positions s) (contents from.node.aside) (raise_steps m found) q nd.aside from.edge in (
          found.tries,
          chosen_traps g.0 from.chosen,
          (y.0, subst (λ (z : Position). Contains (raise_steps m z) y.0) (found_is g.0 from.chosen) y.1, y.2),
        )

    next_all : (tries : List ℕ) → Traps m (drop p m.code) tries → (y : Position) → Contains (steps m (position p tries)) y →
        (q : ℕ) × Contains (contents node.next) q × (slice_get (all_positions s) q ≡ Some y)
    next_all tries t y k =
        let x = traps_chosen tries t in
        let nd = node_at x.number x.chosen.found x.chosen.is in
        let is = are x.number x.chosen.found nd.0 x.chosen.is nd.1 in
        let n = number_all (all_positions s) (contents nd.0.next) (steps m x.chosen.found) y is.next
        (subst (λ (z : Position). Contains (steps m z) y) (sym x.is) k) in
        (n.0, a.next.all x.number x.among n.0 (record { node = nd.0; is = nd.1; chosen = x.chosen; edge = n.1 }), n.2)

    aside_all : (tries : List ℕ) → Traps m (drop p m.code) tries → (y : Position) → Contains (raise_steps m (position p tries)) y →
        (q : ℕ) × Contains (contents node.aside) q × (slice_get (all_positions s) q ≡ Some y)
    aside_all tries t y k =
        let x = traps_chosen tries t in
        let nd = node_at x.number x.chosen.found x.chosen.is in
        let is = are x.number x.chosen.found nd.0 x.chosen.is nd.1 in
        let n = number_all (all_positions s) (contents nd.0.aside) (raise_steps m x.chosen.found) y is.aside
        (subst (λ (z : Position). Contains (raise_steps m z) y) (sym x.is) k) in
        (n.0, a.aside.all x.number x.among n.0 (record { node = nd.0; is = nd.1; chosen = x.chosen; edge = n.1 }), n.2)

    is_after : IsNodeAfterPoint m (m.slots + 32) (all_positions s) p node
    is_after =
        record {
          reads = a.reads;
          writes = subst (λ xs. AreWritesAt (m.slots + 32) xs (contents node.writes)) (sym point.at)
              (subst (AreWritesAt (m.slots + 32) (point.line ∷ point.next)) (sym a.writes)
              (are_writes m.slots point.line point.next (results_numbered m h.numbered p point.line point.next point.at)));
          next_is = next_is;
          next_all = next_all;
          aside_is = aside_is;
          aside_all = aside_all;
        }

    pub is_point : (made : Point) → made.place ≡ p →
        ((n : ℕ) → Contains (search_members (groups_of s) c.place) n → IsChosenPosition s c n → HasTraps s c made.traps) →
        IsPoint m (all_positions s) made node
    is_point made at traps =
        let one = some_chosen in
        let has = traps (one.1).number (one.1).among (one.1).chosen in
        record {
          frame = subst (IsFramePoint m) (sym at) point;
          tries = has.chosen.found.tries;
          pushed = subst (λ k. Traps m (drop k m.code) has.chosen.found.tries) (sym at) (chosen_traps has.number has.chosen);
          traps = has.is;
          after = subst (λ k. IsNodeAfterPoint m (m.slots + 32) (all_positions s) k node) (sym at) is_after;
        }

-- ---- all of them

module _ (m : Lin) (all : List Position) where
  pub points_none : (nodes : List place.Place) → length nodes ≡ length all → ArePositionNodes m (m.slots + 32) all nodes →
      ArePoints m all nodes [] 0
  points_none nodes len are =
      record {
        len = omega (arith, len);
        are = are;
        each = λ j point node e f. absurd (cc);
        every = λ p lt f. absurd (omega (arith, lt));
        order = λ i j d lt le. absurd (omega (arith, le));
        below = All-nil (λ (a : Point). a.place < 0);
        count = (let same = ap frame_point_count (drop_none m.code) in omega (arith, same));
      }

  -- the same for a list that is made empty
  pub points_begun : (nodes : List place.Place) (points : List Point) → points ≡ [] → length nodes ≡ length all →
      ArePositionNodes m (m.slots + 32) all nodes → ArePoints m all nodes points 0
  points_begun nodes points e len are = subst (λ xs. ArePoints m all nodes xs 0) (sym e) (points_none nodes len are)

  pub points_skip : (nodes : List place.Place) (points : List Point) (k : ℕ) → ArePoints m all nodes points k →
      (IsFramePoint m k → ⊥) → frame_point_count (drop k m.code) ≡ frame_point_count (drop (k + 1) m.code) →
      ArePoints m all nodes points (k + 1)
  points_skip nodes points k h none same =
      record {
        len = h.len;
        are = h.are;
        each = h.each;
        every = λ p lt f.
            ⊎_elim (λ (b : p < k). h.every p b f)
            (λ (b : k ≤ p). let e : p ≡ k = omega (arith, lt, b) in absurd (none (subst (IsFramePoint m) e f))) (cases_lt p k);
        order = h.order;
        below = All-weaker (λ (a : Point). a.place < k) (λ (a : Point). a.place < k + 1) (λ a lt. omega (arith, lt)) points h.below;
        count = (let count = h.count in omega (arith, count, same));
      }

  pub points_more : (nodes more : List place.Place) (points others : List Point) (k : ℕ) (node : place.Place) (point : Point) →
      ArePoints m all nodes points k → IsPoint m all point node → point.place ≡ k → more ≡ nodes ++ node ∷ [] →
      others ≡ points ++ point ∷ [] → frame_point_count (drop k m.code) ≡ suc (frame_point_count (drop (k + 1) m.code)) →
      ArePoints m all more others (k + 1)
  points_more nodes more points others k node point h is at e f one =
      let old = h.len in
      let len_nodes : length more ≡ length nodes + 1 = ap length e ∙ length_push nodes node in
      let len_points : length others ≡ length points + 1 = ap length f ∙ length_push points point in
      record {
        len = omega (arith, old, len_nodes, len_points);
        count = (let count = h.count in omega (arith, count, len_points, one));
        are = λ q x nd a b.
            ⊎_elim (λ g. h.are q x nd a g)
            (λ g.
            let lt : q < length all = slice_get_within all q x a in let is_last = g.0 in
            absurd (omega (arith, lt, is_last, old)))
            (pushed_cases nodes node nd q (subst (λ xs. slice_get xs q ≡ Some nd) e b));
        each = λ j pt nd a b.
            ⊎_elim
            (λ g.
            let lt : j < length points = slice_get_within points j pt g in
            ⊎_elim (λ i. h.each j pt nd g i) (λ i. let is_last = i.0 in absurd (omega (arith, lt, is_last, old)))
            (pushed_cases nodes node nd (length all + j) (subst (λ xs. slice_get xs (length all + j) ≡ Some nd) e b)))
            (λ g.
            let last = g.0 in
            ⊎_elim
            (λ i.
            let lt : length all + j < length nodes = slice_get_within nodes (length all + j) nd i in
            absurd (omega (arith, lt, last, old)))
            (λ i. subst (λ (z : Point). IsPoint m all z nd) g.1 (subst (IsPoint m all point) i.1 is))
            (pushed_cases nodes node nd (length all + j) (subst (λ xs. slice_get xs (length all + j) ≡ Some nd) e b)))
            (pushed_cases points point pt j (subst (λ xs. slice_get xs j ≡ Some pt) f a));
        every = λ p lt g.
            ⊎_elim
            (λ (b : p < k).
            let r = h.every p b g in
            (r.0, r.1, subst (λ xs. slice_get xs r.0 ≡ Some r.1) (sym f) (pushed_kept points point r.1 r.0 r.2), r.3))
            (λ (b : k ≤ p).
            let same : k ≡ p = omega (arith, lt, b) in (
              length points,
              point,
              subst (λ xs. slice_get xs (length points) ≡ Some point) (sym f) (pushed_here points point),
              at ∙ same,
            )) (cases_lt p k);
        order = subst (AllPairs (λ (a b : Point). a.place < b.place)) (sym f)
            (all_pairs_push (λ (a b : Point). a.place < b.place) points point h.order
            (λ j d lt. let b : (get_or points j d).place < k = h.below j d lt in omega (arith, b, at)));
        below = subst (All (λ (a : Point). a.place < k + 1)) (sym f)
            (All-push (λ (a : Point). a.place < k + 1) points point
            (All-weaker (λ (a : Point). a.place < k) (λ (a : Point). a.place < k + 1) (λ a lt. omega (arith, lt)) points h.below)
            (omega (arith, at)));
      }

-- ---- where control goes from those that are chosen

module _ (s : Search) (nodes : List place.Place) (c : Choice) (aside : Bool) where
  pub gathers_none : (n : ℕ) (ns : List ℕ) → ((q : ℕ) → ComesFrom s nodes c aside n q → ⊥) → Gathers s nodes c aside n ns ns
  gathers_none n ns none = record { kept = λ q k. k; is = λ q k. inl k; all = λ q k. absurd (none q k) }

  pub gathers_from : (n : ℕ) (ns more : List ℕ) (node : place.Place) → IsChosenPosition s c n → slice_get nodes n ≡ Some node →
      more ≡ ns ++ edges_of aside node → Gathers s nodes c aside n ns more
  gathers_from n ns more node chosen e is =
      record {
        kept = λ q k. subst (λ xs. Contains xs q) (sym is) (Contains-append_left ns (edges_of aside node) q k);
        is = λ q k.
            ⊎_elim (λ g. inl g) (λ g. inr (record { node = node; is = e; chosen = chosen; edge = g }))
            (Contains-append_cases ns (edges_of aside node) q (subst (λ xs. Contains xs q) is k));
        all = λ q k.
            let same : k.node ≡ node = same_some k.node node (sym k.is ∙ e) in
            subst (λ xs. Contains xs q) (sym is)
            (Contains-append_right ns (edges_of aside node) q (subst (λ (nd : place.Place). Contains (edges_of aside nd) q) same k.edge));
      }

  -- from the first of these
  pub record Gathering (among : List ℕ) (i : ℕ) (ns : List ℕ) : Type 0 where
    pub is : (q : ℕ) → Contains ns q → (n : ℕ) × ComesFrom s nodes c aside n q
    pub all : (k : ℕ) → k < i → (q : ℕ) → ComesFrom s nodes c aside (slice_index among k) q → Contains ns q

  pub gathering_none : (among ns : List ℕ) → ns ≡ [] → Gathering among 0 ns
  gathering_none among ns e =
      record {
        is = λ q k. absurd (none_in q (subst (λ xs. Contains xs q) e k));
        all = λ k lt q f. absurd (omega (arith, lt));
      }

  pub gathering_more : (among ns more : List ℕ) (i n : ℕ) → n ≡ slice_index among i → Gathering among i ns →
      Gathers s nodes c aside n ns more → Gathering among (i + 1) more
  gathering_more among ns more i n at h g =
      record {
        is = λ q k. ⊎_elim (λ f. h.is q f) (λ f. (n, f)) (g.is q k);
        all = λ k lt q f.
            ⊎_elim (λ (b : k < i). g.kept q (h.all k b q f))
            (λ (b : i ≤ k).
            let e : k ≡ i = omega (arith, lt, b) in
            g.all q (subst (λ j. ComesFrom s nodes c aside j q) (ap (slice_index among) e ∙ sym at) f)) (cases_lt k i);
      }

  pub gathering_all : (among ns : List ℕ) (i : ℕ) → length among ≤ i → Gathering among i ns → IsGathered s nodes c aside among ns
  gathering_all among ns i le h =
      record {
        is = h.is;
        all = λ n k q f.
            let lt = k.1 in
            let at : slice_index among k.0 ≡ n = get_or_default among k.0 0 n lt ∙ k.2 in
            h.all k.0 (omega (arith, lt, le)) q (subst (λ j. ComesFrom s nodes c aside j q) (sym at) f);
      }

-- ---- frame points to which no walk comes

module _ (m : Lin) where
  pub roots_none : (s : Search) (reached : ℕ) → HasRoots m s s reached 0
  roots_none s reached =
      record { kept = λ q x e. e; grouped = λ g. g; countable = λ c. c; groups = refl; roots = λ p lt f. absurd (omega (arith, lt)) }

  pub first_kept : (s new : Search) (p reached : ℕ) →
      ((q : ℕ) (x : Position) → slice_get (all_positions s) q ≡ Some x → slice_get (all_positions new) q ≡ Some x) → HasFirst s p reached →
      HasFirst new p reached
  first_kept s new p reached kept f =
      let there = f.there in
      record {
        number = f.number;
        below = f.below;
        there = record { found = there.found; is = kept f.number there.found there.is; place = there.place };
      }

-- ---- the next line

head_of : (m : Lin) (k : ℕ) (line : Line) (code : List Line) → code ≡ m.code → k < length code → line ≡ get_or code k line →
    drop k m.code ≡ line ∷ drop (k + 1) m.code
head_of m k line code e lt is =
    subst (λ xs. drop k xs ≡ line ∷ drop (k + 1) xs) e
    (drop_more code k line lt ∙ ap (λ i. i ∷ drop (k + 1) code) (sym is))

abbrev frame_at : (m : Lin) (k : ℕ) (line : Line) (code : List Line) → code ≡ m.code → k < length code → line ≡ get_or code k line →
    passes_frame line.op ≡ true → IsFramePoint m k
frame_at m k line code e lt is passes =
    record { line = line; next = drop (k + 1) m.code; at = head_of m k line code e lt is; passes = passes }

pub no_frame_at : (m : Lin) (k : ℕ) (line : Line) (code : List Line) → code ≡ m.code → k < length code → line ≡ get_or code k line →
    passes_frame line.op ≡ false → IsFramePoint m k → ⊥
no_frame_at m k line code e lt is passes f =
    let heads : line ∷ drop (k + 1) m.code ≡ f.line ∷ f.next = sym (head_of m k line code e lt is) ∙ f.at in
    let same : line ≡ f.line = cc in
    let both : false ≡ true = sym passes ∙ ap (λ (i : Line). passes_frame i.op) same ∙ f.passes in
    absurd (cc)

pub no_point_at : (m : Lin) (k : ℕ) (line : Line) (code : List Line) → code ≡ m.code → k < length code → line ≡ get_or code k line →
    passes_frame line.op ≡ false → frame_point_count (drop k m.code) ≡ frame_point_count (drop (k + 1) m.code)
no_point_at m k line code e lt is passes =
    ap frame_point_count (head_of m k line code e lt is)
    ∙ ap (λ b. cond b (suc (frame_point_count (drop (k + 1) m.code))) (frame_point_count (drop (k + 1) m.code))) passes

pub pointed_more : (m : Lin) (s : Search) (reached : ℕ) (begun : List place.Place) → IsSearchedForPoints m s reached begun →
    (k : ℕ) (line : Line) (code : List Line) → code ≡ m.code → k < length code → line ≡ get_or code k line → passes_frame line.op ≡ true →
    (c : Choice) → IsChoice s k reached c → (traps : ℕ) →
    ((n : ℕ) → Contains (search_members (groups_of s) c.place) n → IsChosenPosition s c n → HasTraps s c traps) →
    (nodes slice more : List place.Place) (points others : List Point) (node : place.Place) → slice ≡ nodes →
    IsAfterNode s slice c line node → ArePoints m (all_positions s) nodes points k → more ≡ nodes ++ node ∷ [] →
    others ≡ points ++ (record { place = k; traps = traps }) ∷ [] → ArePoints m (all_positions s) more others (k + 1)
pointed_more m s reached begun h k line code e lt is passes c choice traps has nodes slice more points others node same after are f g =
    let frame = frame_at m k line code e lt is passes in
    let old = are.len in
    let point : Point = record { place = k; traps = traps } in
    points_more m (all_positions s) nodes more points others k node point are
    (is_point m s reached begun h k c choice frame nodes (omega (arith, old)) are.are node
    (subst (λ xs. IsAfterNode s xs c line node) same after) point refl has) refl f g
    (ap frame_point_count (head_of m k line code e lt is)
    ∙ ap (λ b. cond b (suc (frame_point_count (drop (k + 1) m.code))) (frame_point_count (drop (k + 1) m.code))) passes)

pub gathering_done : (s : Search) (nodes : List place.Place) (c : Choice) (aside : Bool) (among group ns ms : List ℕ) (i : ℕ) →
    among ≡ group → ms ≡ ns → length among ≤ i → Gathering s nodes c aside among i ns → IsGathered s nodes c aside group ms
gathering_done s nodes c aside among group ns ms i e f le h =
    subst (λ xs. IsGathered s nodes c aside xs ms) e
    (subst (IsGathered s nodes c aside among) (sym f) (gathering_all s nodes c aside among ns i le h))

-- ---- the next root

pub rooted_none : (s : Search) (op : LinOp) (p reached : ℕ) → (passes_frame op ≡ true → HasFirst s p reached) → IsRooted s s op p reached
rooted_none s op p reached first =
    record { kept = λ q x e. e; grouped = λ g. g; countable = λ c. c; groups = refl; root = λ e. inr (first e) }

pub rooted_new : (s new : Search) (op : LinOp) (p reached number : ℕ) → PositionEntered s new (position p []) number → IsRooted s new op p reached
rooted_new s new op p reached number g =
    record { kept = g.grown.kept; grouped = g.grown.grouped; countable = g.grown.countable; groups = g.grown.len; root = λ e. inl (number, g.here) }

pub roots_step : (m : Lin) (old s new : Search) (reached k : ℕ) (line : Line) (code : List Line) → code ≡ m.code → k < length code →
    line ≡ get_or code k line → HasRoots m old s reached k → IsRooted s new line.op k reached → HasRoots m old new reached (k + 1)
roots_step m old s new reached k line code e lt is h g =
    record {
      kept = λ q x f. g.kept q x (h.kept q x f);
      grouped = λ a. g.grouped (h.grouped a);
      countable = λ a. g.countable (h.countable a);
      groups = g.groups ∙ h.groups;
      roots = λ p less f.
          ⊎_elim
          (λ (b : p < k).
          ⊎_elim (λ r. inl (r.0, g.kept r.0 (position p []) r.1)) (λ r. inr (first_kept m s new p reached g.kept r)) (h.roots p b f))
          (λ (b : k ≤ p).
          let same : p ≡ k = omega (arith, less, b) in
          let frame : IsFramePoint m k = subst (IsFramePoint m) same f in
          let heads : line ∷ drop (k + 1) m.code ≡ frame.line ∷ frame.next = sym (head_of m k line code e lt is) ∙ frame.at in
          let at : frame.line ≡ line = cc in
          subst (λ j. ((q : ℕ) × (slice_get (all_positions new) q ≡ Some (position j []))) ⊎ HasFirst new j reached) (sym same)
          (g.root (sym (ap (λ (i : Line). passes_frame i.op) at) ∙ frame.passes))) (cases_lt p k);
    }
