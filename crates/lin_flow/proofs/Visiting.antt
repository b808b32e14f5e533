-- Positions that are visited.
use Rattle.std.proofs.Common.{◌≡◌, ℕ, zero, suc, ◌+◌, ◌<◌, ◌≤◌, Bool, true, false, ⊎_elim, List, [], ◌∷◌, ◌++◌, Some, None, length, map, drop, get_or, refl, sym, ap, ◌∙◌, subst, arith}
use Rattle.std.specs.List.{All}
use Rattle.std.specs.Prelude.{slice_get, slice_index, slice_index_or}
use Rattle.std.proofs.lemmas.List.{drop_all, length_push}
use Rattle.std.proofs.lemmas.List.Elements.{All-nil, All-cons, All-head, All-drop, Contains-append_cases}
use Rattle.std.proofs.lemmas.Option.{slice_get_within}
use Rattle.bs_words.specs.Contents.{contents}
use Rattle.bs_words.proofs.Lists.{none_in, got, drop_none, same_some, pushed_cases}
use Rattle.dataflow.specs.declared.flow.Place as place
use Rattle.mach_ir.specs.Acts.{Target, On, At}
use Rattle.mach_ir.specs.Sizes.{number_limit}
use Rattle.lin_ir.specs.Walks.{targets, may_raise, tries_after, Reached}
use Rattle.lin_ir.specs.declared.lin.Spot.{Spot}
use Rattle.lin_ir.specs.declared.lin.Line.{Line}
use Rattle.lin_ir.specs.declared.lin.Lin.{Lin}
use Rattle.lin_laws.proofs.Numbers.{number_below, are_reads, are_writes}
use Rattle.lin_laws.proofs.Reaching.{steps_reached, raises_reached}
use Rattle.lin_laws.specs.Graph.{place_at, position, steps, steps_at, raise_steps, raises_at, landing, HaveNumbers, AreNumbered, AreNumbersOf, AreReads, AreWritesAt, IsPositionNode, ArePositionNodes}
use Rattle.lin_laws.specs.Numbers.{val_numbers, written_numbers}
use Rattle.lin_laws.specs.declared.position.Position.{Position}
use Rattle.lin_flow.proofs.Searching.{grown_then, grown_none, numbers_kept}
use Rattle.lin_flow.specs.Labels.{line_of_label, AreLabelsOf}
use Rattle.mach_ir.specs.Labels.{place_to}
use Rattle.lin_flow.specs.Nodes.{landing_to, steps_to, Landed, IsText, IsNodeOfLine, VisitedPosition, IsSearchReady, AreWalkedTo, Spreads}
use Rattle.lin_flow.specs.Search.{all_positions, groups_of, Grown, AreCountable}
use Rattle.lin_flow.specs.Sizes.{IsCountable, HaveSmall}
use Rattle.lin_flow.specs.declared.labels.LineLabels.{LineLabels}
use Rattle.lin_flow.specs.declared.search.Search.{Search}

-- ---- places

pub places_within : (labels : LineLabels) (p count : ℕ) → ((l : ℕ) → line_of_label labels l < count) → suc p < count → (ts : List Target) →
    All (λ q. q < count) (map (place_to (line_of_label labels) p) ts)
places_within labels p count in_labels next [] = All-nil (λ q. q < count)
places_within labels p count in_labels next (On ∷ ts) =
    All-cons (λ q. q < count) (suc p) (map (place_to (line_of_label labels) p) ts) next (places_within labels p count in_labels next ts)
places_within labels p count in_labels next (At l ∷ ts) =
    All-cons (λ q. q < count) (line_of_label labels l) (map (place_to (line_of_label labels) p) ts) (in_labels l) (places_within labels p count in_labels next ts)

pub labels_within : (m : Lin) (labels : LineLabels) (count : ℕ) → AreLabelsOf m labels → count ≡ suc (length m.code) → (l : ℕ) →
    line_of_label labels l < count
labels_within m labels count is len l = let e = is.each l in omega (arith, e, len)

module _ (m : Lin) (labels : LineLabels) (is : AreLabelsOf m labels) where
  step_same : (p : ℕ) (t : Target) → place_to (line_of_label labels) p t ≡ place_at m p t
  step_same p On = refl
  step_same p (At l) = is.each l

  steps_of : (p : ℕ) (tries : List ℕ) (ts : List Target) →
      map (λ q. position q tries) (map (place_to (line_of_label labels) p) ts) ≡ map (λ t. position (place_at m p t) tries) ts
  steps_of p tries [] = refl
  steps_of p tries (t ∷ ts) =
      ap (λ q. position q tries ∷ map (λ q. position q tries) (map (place_to (line_of_label labels) p) ts)) (step_same p t)
      ∙ ap (λ ys. position (place_at m p t) tries ∷ ys) (steps_of p tries ts)

  landing_same : (b : Bool) (tries : List ℕ) → landing_to labels b tries ≡ landing m b tries
  landing_same false tries = refl
  landing_same true [] = refl
  landing_same true (h ∷ tries) = ap (λ q. position q tries ∷ []) (is.each h)

-- ---- the place of a line

pub all_within : (labels : LineLabels) (p count : ℕ) (ts : List Target) (ps slice : List ℕ) → slice ≡ ps → ps ≡ map (place_to (line_of_label labels) p) ts →
    ((l : ℕ) → line_of_label labels l < count) → suc p < count → All (λ q. q < count) slice
all_within labels p count ts ps slice e f in_labels next =
    subst (All (λ q. q < count)) (sym (e ∙ f)) (places_within labels p count in_labels next ts)

pub node_of : (labels : LineLabels) (old mid new : Search) (i : Line) (p : ℕ) (tries after places : List ℕ) (node : place.Place) →
    after ≡ tries_after i.op tries → places ≡ map (place_to (line_of_label labels) p) (targets i.op) →
    Grown old mid (map (λ q. position q after) places) →
    AreNumbersOf (all_positions mid) (contents node.next) (map (λ q. position q after) places) →
    Grown mid new (landing_to labels (may_raise i.op) tries) →
    AreNumbersOf (all_positions new) (contents node.aside) (landing_to labels (may_raise i.op) tries) →
    contents node.reads ≡ val_numbers i.args → contents node.writes ≡ written_numbers i →
    IsNodeOfLine labels old new i p tries node
node_of labels old mid new i p tries after places node e f g next h aside reads writes =
    let same : map (λ q. position q after) places ≡ steps_to labels i p tries =
    ap (λ ts. map (λ q. position q ts) places) e ∙ ap (map (λ q. position q (tries_after i.op tries))) f in
    let landed = landing_to labels (may_raise i.op) tries in
    record {
      grown = grown_then old mid new (steps_to labels i p tries) landed (subst (Grown old mid) same g) h;
      next = subst (AreNumbersOf (all_positions new) (contents node.next)) same
          (numbers_kept mid new (contents node.next) (map (λ q. position q after) places) landed h next);
      aside = aside;
      reads = reads;
      writes = writes;
    }

pub node_made : (labels : LineLabels) (old mid new : Search) (i : Line) (p : ℕ) (tries after places next aside : List ℕ) (raises : Bool)
    (node : place.Place) → after ≡ tries_after i.op tries → places ≡ map (place_to (line_of_label labels) p) (targets i.op) →
    Grown old mid (map (λ q. position q after) places) → AreNumbersOf (all_positions mid) next (map (λ q. position q after) places) →
    raises ≡ may_raise i.op → Landed mid new (landing_to labels raises tries) aside → contents node.next ≡ next →
    contents node.aside ≡ aside → contents node.reads ≡ val_numbers i.args → contents node.writes ≡ written_numbers i →
    IsNodeOfLine labels old new i p tries node
node_made labels old mid new i p tries after places next aside raises node e f g h r land n a reads writes =
    let landed = subst (λ b. Landed mid new (landing_to labels b tries) aside) r land in
    node_of labels old mid new i p tries after places node e f g
    (subst (λ ns. AreNumbersOf (all_positions mid) ns (map (λ q. position q after) places)) (sym n) h) landed.grown
    (subst (λ ns. AreNumbersOf (all_positions new) ns (landing_to labels (may_raise i.op) tries)) (sym a) landed.numbers) reads writes

pub place_past : {A : Type 0} (xs : List A) (k : ℕ) → slice_get xs k ≡ None → length xs ≤ k
place_past [] k e = omega arith
place_past (x ∷ xs) zero e = absurd (cc)
place_past (x ∷ xs) (suc k) e = let le = place_past xs k e in omega (arith, le)

-- ---- the place of a position

pub drop_at : {A : Type 0} (xs : List A) (p : ℕ) (x : A) → slice_get xs p ≡ Some x → drop p xs ≡ x ∷ drop (suc p) xs
drop_at [] p x e = absurd (cc)
drop_at (z ∷ zs) zero x e =
    let f : z ≡ x = cc in ap (λ y. y ∷ zs) f ∙ ap (λ ys. x ∷ ys) (sym (drop_none zs))
drop_at (z ∷ zs) (suc p) x e = drop_at zs p x e

module _ (m : Lin) (numbered : AreNumbered m) where
  pub args_numbered : (p : ℕ) (i : Line) (next : List Line) → drop p m.code ≡ i ∷ next → HaveNumbers m.slots i.args
  args_numbered p i next e =
      let P : Line → Type 0 = λ i. HaveNumbers m.slots i.args in
      All-head P i next (subst (All P) e (All-drop P p m.code numbered.args))

  pub results_numbered : (p : ℕ) (i : Line) (next : List Line) → drop p m.code ≡ i ∷ next → HaveNumbers m.slots i.results
  results_numbered p i next e =
      let P : Line → Type 0 = λ i. HaveNumbers m.slots i.results in
      All-head P i next (subst (All P) e (All-drop P p m.code numbered.results))

small_spots : (slots : ℕ) (ss : List Spot) → HaveNumbers slots ss → slots + 32 < number_limit → HaveSmall ss
small_spots slots ss h lt = λ k d within.
    let below = number_below slots (slice_index_or ss k d).loc (h k d within) in omega (arith, below, lt)

-- the numbers of locations that a line names fit
module _ (m : Lin) (numbered : AreNumbered m) (countable : IsCountable m) where
  pub args_small : (p : ℕ) (i : Line) → slice_get m.code p ≡ Some i → HaveSmall i.args
  args_small p i e = small_spots m.slots i.args (args_numbered m numbered p i (drop (suc p) m.code) (drop_at m.code p i e)) countable.slots

  pub results_small : (p : ℕ) (i : Line) → slice_get m.code p ≡ Some i → HaveSmall i.results
  results_small p i e = small_spots m.slots i.results (results_numbered m numbered p i (drop (suc p) m.code) (drop_at m.code p i e)) countable.slots

module _ (m : Lin) (labels : LineLabels) (text : IsText m labels) where
  abbrev bound : ℕ
  bound = m.slots + 32

  visited_at : (old new : Search) (number : ℕ) (x : Position) (i : Line) (next : List Line) (node : place.Place) →
      slice_get (all_positions old) number ≡ Some x → drop x.place m.code ≡ i ∷ next →
      IsNodeOfLine labels old new i x.place x.tries node → VisitedPosition m old new number node
  visited_at old new number x i next node at e h =
      let after : steps_to labels i x.place x.tries ≡ steps m x =
      steps_of m labels text.table x.place (tries_after i.op x.tries) (targets i.op)
      ∙ ap (λ xs. steps_at m x.place xs x.tries) (sym e) in
      let landed : landing_to labels (may_raise i.op) x.tries ≡ raise_steps m x =
      landing_same m labels text.table (may_raise i.op) x.tries ∙ ap (λ xs. raises_at m xs x.tries) (sym e) in
      record {
        at = x;
        is = at;
        grown = subst (λ zs. Grown old new (steps m x ++ zs)) landed
            (subst (λ ys. Grown old new (ys ++ landing_to labels (may_raise i.op) x.tries)) after h.grown);
        is_node = record {
          next = subst (AreNumbersOf (all_positions new) (contents node.next)) after h.next;
          aside = subst (AreNumbersOf (all_positions new) (contents node.aside)) landed h.aside;
          reads = subst (λ xs. AreReads bound xs (contents node.reads)) (sym e)
              (subst (AreReads bound (i ∷ next)) (sym h.reads) (are_reads m.slots i next (args_numbered m text.numbered x.place i next e)));
          writes = subst (λ xs. AreWritesAt bound xs (contents node.writes)) (sym e)
              (subst (AreWritesAt bound (i ∷ next)) (sym h.writes) (are_writes m.slots i next (results_numbered m text.numbered x.place i next e)));
        };
      }

  pub visited_line : (old new : Search) (number : ℕ) (x : Position) (i : Line) (node : place.Place) →
      slice_get (all_positions old) number ≡ Some x → slice_get m.code x.place ≡ Some i →
      IsNodeOfLine labels old new i x.place x.tries node → VisitedPosition m old new number node
  visited_line old new number x i node at e h =
      visited_at old new number x i (drop (suc x.place) m.code) node at (drop_at m.code x.place i e) h

  no_reads : AreReads bound [] []
  no_reads = record { within = All-nil (λ n. n < bound); exact = λ n. (λ c. none_in n c, λ h. absurd h) }

  no_writes : AreWritesAt bound [] []
  no_writes = record { within = All-nil (λ n. n < bound); exact = λ n. (λ c. none_in n c, λ h. absurd h) }

  no_numbers : (all : List Position) → AreNumbersOf all [] []
  no_numbers all = record { len = refl; each = λ k d lt. absurd (omega (arith, lt)) }

  -- past the last line
  pub visited_end : (s : Search) (number : ℕ) (x : Position) (node : place.Place) →
      slice_get (all_positions s) number ≡ Some x → length m.code ≤ x.place → contents node.next ≡ [] → contents node.aside ≡ [] →
      contents node.reads ≡ [] → contents node.writes ≡ [] → VisitedPosition m s s number node
  visited_end s number x node at le next aside reads writes =
      let e : drop x.place m.code ≡ [] = drop_all x.place m.code le in
      let none : steps m x ≡ [] = ap (λ xs. steps_at m x.place xs x.tries) e in
      let no_raise : raise_steps m x ≡ [] = ap (λ xs. raises_at m xs x.tries) e in
      record {
        at = x;
        is = at;
        grown = subst (λ zs. Grown s s (steps m x ++ zs)) (sym no_raise) (subst (λ ys. Grown s s (ys ++ [])) (sym none) (grown_none s));
        is_node = record {
          next = subst (λ ys. AreNumbersOf (all_positions s) (contents node.next) ys) (sym none)
              (subst (λ ns. AreNumbersOf (all_positions s) ns []) (sym next) (no_numbers (all_positions s)));
          aside = subst (λ ys. AreNumbersOf (all_positions s) (contents node.aside) ys) (sym no_raise)
              (subst (λ ns. AreNumbersOf (all_positions s) ns []) (sym aside) (no_numbers (all_positions s)));
          reads = subst (λ xs. AreReads bound xs (contents node.reads)) (sym e) (subst (AreReads bound []) (sym reads) no_reads);
          writes = subst (λ xs. AreWritesAt bound xs (contents node.writes)) (sym e) (subst (AreWritesAt bound []) (sym writes) no_writes);
        };
      }

-- ---- all positions

pub kept_length : {A : Type 0} (xs ys : List A) → ((q : ℕ) (x : A) → slice_get xs q ≡ Some x → slice_get ys q ≡ Some x) →
    length xs ≤ length ys
kept_length [] ys kept = omega arith
kept_length {A} (x ∷ xs) ys kept =
    let last = got (x ∷ xs) (length xs) (omega arith) in
    let lt : length xs < length ys = slice_get_within ys (length xs) last.0 (kept (length xs) last.0 last.1) in
    omega (arith, lt)

-- each position of the first list has its number in the second
abbrev pub AreKept : List Position → List Position → Type 0
AreKept xs ys = (q : ℕ) (x : Position) → slice_get xs q ≡ Some x → slice_get ys q ≡ Some x

still_numbers : (xs ys : List Position) → AreKept xs ys → (ns : List ℕ) (zs : List Position) → AreNumbersOf xs ns zs → AreNumbersOf ys ns zs
still_numbers xs ys kept ns zs h =
    record { len = h.len; each = λ k d lt. kept (slice_index ns k) (get_or zs k d) (h.each k d lt) }

node_kept : (m : Lin) (xs ys : List Position) → AreKept xs ys → (x : Position) (node : place.Place) →
    IsPositionNode m (m.slots + 32) xs x node → IsPositionNode m (m.slots + 32) ys x node
node_kept m xs ys kept x node h =
    record {
      next = still_numbers xs ys kept (contents node.next) (steps m x) h.next;
      aside = still_numbers xs ys kept (contents node.aside) (raise_steps m x) h.aside;
      reads = h.reads;
      writes = h.writes;
    }

module _ (m : Lin) where
  pub spreads_none : (s : Search) (nodes : List place.Place) → IsSearchReady m s nodes → Spreads m s s nodes
  spreads_none s nodes h = record { kept = λ q x e. e; walked = λ w. w; grouped = λ g. g; ready = h }

  nodes_more : (s new : Search) (nodes : List place.Place) (node : place.Place) → IsSearchReady m s nodes →
      (v : VisitedPosition m s new (length nodes) node) → ArePositionNodes m (m.slots + 32) (all_positions new) (nodes ++ node ∷ [])
  nodes_more s new nodes node h v q x other at is =
      ⊎_elim
      (λ e.
      let lt : q < length nodes = slice_get_within nodes q other e in
      let fewer = h.fewer in
      let was = got (all_positions s) q (omega (arith, lt, fewer)) in
      let same : was.0 ≡ x = same_some was.0 x (sym (v.grown.kept q was.0 was.1) ∙ at) in
      node_kept m (all_positions s) (all_positions new) v.grown.kept x other
      (h.are q x other (was.1 ∙ ap Some same) e))
      (λ e.
      let same : v.at ≡ x =
      same_some v.at x (sym (v.grown.kept q v.at (subst (λ k. slice_get (all_positions s) k ≡ Some v.at) (sym e.0) v.is)) ∙ at) in
      subst (λ y. IsPositionNode m (m.slots + 32) (all_positions new) y other) same
      (subst (λ nd. IsPositionNode m (m.slots + 32) (all_positions new) v.at nd) e.1 v.is_node)) (pushed_cases nodes node other q is)

  walked_more : (s new : Search) (number : ℕ) (node : place.Place) → VisitedPosition m s new number node → AreWalkedTo m (all_positions s) →
      AreWalkedTo m (all_positions new)
  walked_more s new number node v w =
      record {
        each = λ q x e.
            let from : Reached m (drop v.at.place m.code) v.at.tries = w.each number v.at v.is in
            ⊎_elim (λ f. w.each q x f)
            (λ f.
            ⊎_elim (λ c. steps_reached m v.at from x c) (λ c. raises_reached m v.at from x c)
            (Contains-append_cases (steps m v.at) (raise_steps m v.at) x f)) (v.grown.fresh q x e);
      }

  pub spreads_more : (old s new : Search) (nodes more : List place.Place) (number : ℕ) (node : place.Place) → Spreads m old s nodes →
      number ≡ length nodes → number < length (all_positions s) → VisitedPosition m s new number node → more ≡ nodes ++ node ∷ [] →
      Spreads m old new more
  spreads_more old s new nodes more number node h e lt v is =
      let v' : VisitedPosition m s new (length nodes) node = subst (λ k. VisitedPosition m s new k node) e v in
      let grows : length (all_positions s) ≤ length (all_positions new) = kept_length (all_positions s) (all_positions new) v.grown.kept in
      let len : length more ≡ length nodes + 1 = ap length is ∙ length_push nodes node in
      record {
        kept = λ q x f. v.grown.kept q x (h.kept q x f);
        walked = λ w. walked_more s new number node v (h.walked w);
        grouped = λ g. v.grown.grouped (h.grouped g);
        ready = record {
          groups = v.grown.len ∙ h.ready.groups;
          countable = v.grown.countable h.ready.countable;
          fewer = omega (arith, lt, e, grows, len);
          are = subst (ArePositionNodes m (m.slots + 32) (all_positions new)) (sym is) (nodes_more s new nodes node h.ready v');
        };
      }

  -- more positions, none of them visited
  pub still_ready : (s new : Search) (nodes : List place.Place) → IsSearchReady m s nodes → length nodes ≡ length (all_positions s) →
      AreKept (all_positions s) (all_positions new) → length (groups_of new) ≡ length (groups_of s) → (AreCountable s → AreCountable new) → IsSearchReady m new nodes
  still_ready s new nodes h len kept groups countable =
      let grows : length (all_positions s) ≤ length (all_positions new) = kept_length (all_positions s) (all_positions new) kept in
      record {
        groups = groups ∙ h.groups;
        countable = countable h.countable;
        fewer = omega (arith, len, grows);
        are = λ q x node at is.
            let lt : q < length nodes = slice_get_within nodes q node is in
            let was = got (all_positions s) q (omega (arith, lt, len)) in
            let same : was.0 ≡ x = same_some was.0 x (sym (kept q was.0 was.1) ∙ at) in
            node_kept m (all_positions s) (all_positions new) kept x node (h.are q x node (was.1 ∙ ap Some same) is);
      }
