-- What is live where walks come, by the graph.
use Rattle.std.proofs.Common.{◌≡◌, ◌↔◌, ℕ, ◌+◌, ◌-◌, ◌<◌, ◌≤◌, Bool, true, false, List, [], ◌∷◌, Some, length, drop, refl, sym, ap, ◌∙◌, subst, arith}
use Rattle.std.specs.List.{All, Contains}
use Rattle.std.specs.Prelude.{slice_get, slice_index, slice_index_or, IsTrue}
use Rattle.std.proofs.lemmas.List.{get_or_default}
use Rattle.std.proofs.lemmas.List.Elements.{Contains-get_or}
use Rattle.std.proofs.lemmas.Option.{slice_get_within, slice_get-get_or}
use Rattle.bs_bits.specs.Set.{has}
use Rattle.bs_words.specs.Contents.{contents}
use Rattle.bs_words.specs.declared.types.Comp.TheVariants as comp
use Rattle.bs_words.proofs.Lists.{none_in, got, same_some}
use Rattle.dataflow.specs.Flow.{IsPlace, IsFlowFormed}
use Rattle.dataflow.specs.Rows.{set_in_row}
use Rattle.dataflow.specs.declared.flow.Flow as flow
use Rattle.dataflow.specs.declared.flow.Place as place
use Rattle.lin_ir.specs.Walks.{targets, tries_after, Reached, goes, Live, LiveAfter, after_step}
use Rattle.lin_ir.specs.declared.lin.Line.{Line}
use Rattle.lin_ir.specs.declared.lin.Lin.{Lin}
use Rattle.lin_laws.proofs.Places.{drop_is, place_drop, place_target, number_is, number_all}
use Rattle.lin_laws.proofs.Walking.{step_is, in_steps, to_live, from_live}
use Rattle.lin_laws.specs.Graph.{location_of_number, line_index, place_at, position, steps, steps_at, raise_steps, ArePositionNodes, IsGraphOf}
use Rattle.lin_laws.specs.declared.position.Position.{Position}
use Rattle.lin_flow.specs.Live.{ReadsOnSomewhere, ReadsOnFrom, ReadsOnAmong}
use Rattle.lin_flow.specs.Search.{all_positions, groups_of, search_members, HasFirst, IsThere}
use Rattle.lin_flow.specs.Walked.{IsWalked, AreLive, IsReachedAt, IsReadAfter}
use Rattle.lin_flow.specs.declared.live.LiveWalks.{LiveWalks}
use Rattle.lin_flow.specs.declared.search.Search.{Search}

-- ---- the table is a graph

module _ (m : Lin) (all : List Position) (f : flow.Flow) (len : length all ≤ length (contents f.places))
    (are : ArePositionNodes m (m.slots + 32) all (contents f.places)) (at_bound : f.bound ≡ m.slots + 32) where
  pub numbers_within : (ns : List ℕ) → ((q : ℕ) → Contains ns q → (y : Position) × (slice_get all q ≡ Some y)) →
      All (λ q. q < length (contents f.places)) ns
  numbers_within ns named = λ k d lt.
      let q : ℕ = slice_index_or ns k d in
      let y = named q (Contains-get_or ns k d lt) in
      let less : q < length all = slice_get_within all q y.0 y.1 in
      omega (arith, less, len)

  pub position_place : (q : ℕ) (x : Position) (node : place.Place) → slice_get all q ≡ Some x → slice_get (contents f.places) q ≡ Some node →
      IsPlace (length (contents f.places)) f.bound node
  position_place q x node at stands =
      let n = are q x node at stands in
      record {
        next = numbers_within (contents node.next) (λ k c. let y = number_is all (contents node.next) (steps m x) k n.next c in (y.0, y.2));
        aside = numbers_within (contents node.aside)
            (λ k c. let y = number_is all (contents node.aside) (raise_steps m x) k n.aside c in (y.0, y.2));
        reads = subst (λ b. All (λ k. k < b) (contents node.reads)) (sym at_bound) n.reads.within;
        writes = subst (λ b. All (λ k. k < b) (contents node.writes)) (sym at_bound) n.writes.within;
      }

  pub graph_of : IsGraphOf m all f
  graph_of = record { len = len; nodes = subst (λ b. ArePositionNodes m b all (contents f.places)) (sym at_bound) are }

pub walks_flow : (m : Lin) (s : Search) (nodes : List place.Place) (f : flow.Flow) → IsWalked m s nodes → contents f.places ≡ nodes →
    f.bound ≡ m.slots + 32 → IsFlowFormed f
walks_flow m s nodes f walked same at_bound = λ k d lt.
    let all = all_positions s in
    let len_same = ap length same in
    let both = walked.all in
    let len : length all ≤ length (contents f.places) = omega (arith, len_same, both) in
    let x = got all k (omega (arith, lt, len_same, both)) in
    position_place m all f len (subst (ArePositionNodes m (m.slots + 32) all) (sym same) walked.ready.are) at_bound k x.0
    (slice_index_or (contents f.places) k d) x.1 (slice_get-get_or (contents f.places) k d lt)

-- ---- what the table says

pub is_true : (b : Bool) → (b ≡ false → ⊥) → b ≡ true
is_true true out = refl
is_true false out = absurd (out refl)

module _ (m : Lin) (w : LiveWalks) (h : AreLive m w) where
  abbrev all : List Position
  all = all_positions w.search

  abbrev nodes : List place.Place
  nodes = contents w.flow.places

  graph_is : IsGraphOf m all w.flow
  graph_is =
      let both = h.walked.all in
      graph_of m all w.flow (omega (arith, both)) h.walked.ready.are h.bound

  pub first_reached : (p : ℕ) → HasFirst w.search p w.reached → IsReachedAt m p
  first_reached p f =
      record {
        tries = f.there.found.tries;
        reached = subst (λ k. Reached m (drop k m.code) f.there.found.tries) f.there.place
            (h.walked.reached.sound f.number f.there.found f.there.is);
      }

  pub reached_first : (p : ℕ) → p ≤ length m.code → IsReachedAt m p → HasFirst w.search p w.reached
  reached_first p le r =
      let y = h.walked.reached.complete (drop p m.code) r.tries r.reached in
      let x : Position = position (line_index m (drop p m.code)) r.tries in
      let lt : y.0 < length all = slice_get_within all y.0 x y.1 in
      let count = h.count in
      record {
        number = y.0;
        below = omega (arith, lt, count);
        there = record { found = x; is = y.1; place = place_drop p m.code le };
      }

  read_behind : (p n q : ℕ) (x : Position) → slice_get all q ≡ Some x → x.place ≡ p → (rest : List Line) → drop x.place m.code ≡ rest →
      (y : Position) → Contains (steps_at m x.place rest x.tries) y → Live m (location_of_number n) comp.Val (drop y.place m.code) y.tries →
      IsReadAfter m p (location_of_number n)
  read_behind p n q x is at [] e y c v = absurd (none_in y c)
  read_behind p n q x is at (i ∷ next) e y c v =
      let t = step_is m x.place (tries_after i.op x.tries) (targets i.op) y c in
      let LiveIn : Position → Type 0 = λ y. Live m (location_of_number n) comp.Val (drop y.place m.code) y.tries in
      record {
        line = i;
        next = next;
        at = ap (λ k. drop k m.code) (sym at) ∙ e;
        tries = x.tries;
        reached = subst (λ xs. Reached m xs x.tries) e (h.walked.reached.sound q x is);
        live = after_step (goes t.0 t.1)
            (subst (λ xs. Live m (location_of_number n) comp.Val xs (tries_after i.op x.tries)) (place_target m x.place i next t.0 e)
            (subst LiveIn (sym t.2) v));
      }

  pub reads_on : (p n : ℕ) → ReadsOnSomewhere w p n → IsReadAfter m p (location_of_number n)
  reads_on p n r =
      let q = r.position in
      let x = r.from.there.found in
      let node = r.from.node in
      let k = h.walked.ready.are q x node r.from.there.is r.from.is in
      let to = number_is all (contents node.next) (steps m x) r.from.on.position k.next r.from.on.among in
      let before = (h.live.exact r.from.on.position n).0 r.from.on.live in
      read_behind p n q x r.from.there.is r.from.there.place (drop x.place m.code) refl to.0 to.1
      (to_live m all w.flow graph_is n before.0 r.from.on.position to.0 to.2 before.1)

  pub on_reads : (p n : ℕ) → IsReadAfter m p (location_of_number n) → ReadsOnSomewhere w p n
  on_reads p n r = by r.live
    where
      x : Position
      x = position p r.tries

      here : (q : ℕ) × (slice_get all q ≡ Some x)
      here =
          let d = drop_is p m.code r.line r.next r.at in
          let lt = d.0 in
          let le : p ≤ length m.code = omega (arith, lt) in
          let y = h.walked.reached.complete (r.line ∷ r.next) r.tries r.reached in
          let at : line_index m (r.line ∷ r.next) ≡ p = ap (λ xs. length m.code - length xs) (sym r.at) ∙ place_drop p m.code le in
          (y.0, y.1 ∙ ap (λ k. Some (position k r.tries)) at)

      node : (node : place.Place) × (slice_get nodes here.0 ≡ Some node)
      node =
          let lt : here.0 < length all = slice_get_within all here.0 x here.1 in
          let both = h.walked.all in
          got nodes here.0 (omega (arith, lt, both))

      by : LiveAfter m (location_of_number n) comp.Val r.line r.next r.tries → ReadsOnSomewhere w p n
      by (after_step (goes t o) v) =
          let k = h.walked.ready.are here.0 x node.0 here.1 node.1 in
          let y : Position = position (place_at m p t) (tries_after r.line.op r.tries) in
          let c : Contains (steps m x) y =
          subst (λ xs. Contains (steps_at m p xs r.tries) y) (sym r.at) (in_steps m p (tries_after r.line.op r.tries) o) in
          let to = number_all all (contents node.0.next) (steps m x) y k.next c in
          let before = from_live m all w.flow graph_is n v to.0 y to.2 (place_target m p r.line r.next t r.at) refl in
          record {
            position = here.0;
            member = h.walked.grouped.grouped here.0 x here.1;
            from = record {
              there = record { found = x; is = here.1; place = refl };
              node = node.0;
              is = node.1;
              on = record { position = to.0; among = to.1; live = (h.live.exact to.0 n).1 before };
            };
          }

-- ---- of a list, none was it

-- none of the first is live
pub none_live : (w : LiveWalks) (items : List ℕ) (i n : ℕ) → length items ≤ i →
    ((k : ℕ) → k < i → has (set_in_row w.live.rows.items (slice_index items k)) n ≡ true → ⊥) → ReadsOnAmong w items n → ⊥
none_live w items i n le none r =
    let c = r.among in
    let lt = c.1 in
    let at : slice_index items c.0 ≡ r.position = get_or_default items c.0 0 r.position lt ∙ c.2 in
    none c.0 (omega (arith, lt, le)) (ap (λ k. has (set_in_row w.live.rows.items k) n) at ∙ r.live)

pub none_on : (w : LiveWalks) (p n : ℕ) (items : List ℕ) (i : ℕ) → length items ≤ i → items ≡ search_members (groups_of w.search) p →
    ((k : ℕ) → k < i → ReadsOnFrom w p n (slice_index items k) → ⊥) → ReadsOnSomewhere w p n → ⊥
none_on w p n items i le is none r =
    let c : Contains items r.position = subst (λ xs. Contains xs r.position) (sym is) r.member in
    let lt = c.1 in
    let at : slice_index items c.0 ≡ r.position = get_or_default items c.0 0 r.position lt ∙ c.2 in
    none c.0 (omega (arith, lt, le)) (subst (ReadsOnFrom w p n) (sym at) r.from)

pub some_live : (w : LiveWalks) (items : List ℕ) (i n : ℕ) → i < length items →
    has (set_in_row w.live.rows.items (slice_index items i)) n ≡ true → ReadsOnAmong w items n
some_live w items i n lt e = record { position = slice_index items i; among = Contains-get_or items i 0 lt; live = e }

pub some_on : (w : LiveWalks) (p n : ℕ) (items : List ℕ) (i : ℕ) → i < length items → items ≡ search_members (groups_of w.search) p →
    ReadsOnFrom w p n (slice_index items i) → ReadsOnSomewhere w p n
some_on w p n items i lt is from =
    record {
      position = slice_index items i;
      member = subst (λ xs. Contains xs (slice_index items i)) is (Contains-get_or items i 0 lt);
      from = from;
    }

pub from_node : (w : LiveWalks) (p n q : ℕ) (node : place.Place) (there : IsThere w.search p q) (b : Bool) →
    slice_get (contents w.flow.places) q ≡ Some node → (IsTrue b ↔ ReadsOnAmong w (contents node.next) n) → IsTrue b ↔ ReadsOnFrom w p n q
from_node w p n q node there b is same = (
  λ e. record { there = there; node = node; is = is; on = same.0 e },
  λ r.
      let other : r.node ≡ node = same_some r.node node (sym r.is ∙ is) in
      same.1 (subst (λ (x : place.Place). ReadsOnAmong w (contents x.next) n) other r.on),
)
