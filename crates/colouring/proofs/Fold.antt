-- The choices, one after the other, make a colouring with no needless slot.
use Rattle.std.proofs.Common.{◌≡◌, ℕ, ◌⊎◌, inl, inr, ⊎_elim, Bool, cond, List, [], ◌∷◌, refl, sym, ap, ◌∙◌, subst}
use Rattle.std.proofs.Math.Path.{fun_ext}
use Rattle.std.specs.List.{AllPairs, Contains}
use Rattle.std.proofs.lemmas.Bool.{eq-eqb, ne_eqb, cases_eq}
use Rattle.bs_words.specs.declared.types.Loc.{Loc}
use Rattle.bs_words.specs.declared.types.Loc.TheVariants as loc
use Rattle.bs_words.proofs.Lists.{none_in, first_in, later_in, in_cons, pairs_later}
use Rattle.mach_ir.specs.Graph.{IsColourable, InGraph, JoinedIn, coloured_location}
use Rattle.mach_ir.specs.Placed.{Colouring, colour_numbers, HasColourOrSlot, in_colour, in_slot, MayShare, placed_by, IsProperColouring, NoNeedlessSlot}
use Rattle.mach_ir.specs.declared.reg.Reg.{Reg}
use Rattle.mach_ir.specs.declared.graph.Node.{Node}
use Rattle.mach_ir.specs.declared.graph.Graph.{Graph}
use Rattle.mach_ir.specs.declared.graph.Colours.{Colours}
use Rattle.colouring.specs.Chosen.{IsColouredBefore, IsOrder, IsGreedyColouring, OthersAreUnset, location_of_node, fixed, colouring_with, chosen_location, greedily_coloured}
use Rattle.colouring.proofs.Ordered.{pairs_first, strict_order}
use Rattle.colouring.proofs.Found.{found_at, one_of_number, node_of, in_graph, missing}
use Rattle.colouring.proofs.Choice.{InColour, InSlot, choice}

put_here : (place : Colouring) (n : ℕ) (here : Loc) (k : ℕ) → k ≡ n → colouring_with place n here k ≡ here
put_here place n here k e = ap (λ (b : Bool). cond b here (place k)) (eq-eqb k n e)

put_other : (place : Colouring) (n : ℕ) (here : Loc) (k : ℕ) → (k ≡ n → ⊥) → colouring_with place n here k ≡ place k
put_other place n here k ne = ap (λ (b : Bool). cond b here (place k)) (ne_eqb k n ne)

-- a neighbour of the node is at the colour
record Beside (nodes : List Node) (place : Colouring) (x : Node) (c : ℕ) : Type 0 where
  pub node : Node
  pub among : Contains nodes node
  pub joins : Contains x.neighbours node.reg.number
  pub there : place node.reg.number ≡ loc.Machine c

-- what holds of the places where these nodes are still to have theirs
record Good (g : Graph) (rest : List Node) (place : Colouring) : Type 0 where
  pub stays : (x : Node) → Contains g.nodes x → (x.reg.loc ≡ loc.Unset) ⊎ (place x.reg.number ≡ x.reg.loc)
  pub places : (x : Node) → Contains g.nodes x →
      (place x.reg.number ≡ loc.Unset) ⊎ HasColourOrSlot (placed_by place x.reg)
  pub waits : (x : Node) → Contains g.nodes x → place x.reg.number ≡ loc.Unset → Contains rest x
  pub waiting : (x : Node) → Contains rest x → place x.reg.number ≡ loc.Unset
  pub apart : (x y : Node) → Contains g.nodes x → Contains g.nodes y → Contains x.neighbours y.reg.number →
      (place x.reg.number ≡ loc.Unset → ⊥) → place x.reg.number ≡ place y.reg.number →
      MayShare (placed_by place x.reg) (placed_by place y.reg)
  pub full : (x : Node) → Contains g.nodes x → x.reg.loc ≡ loc.Unset → (k : ℕ) → place x.reg.number ≡ loc.Slot k →
      (c : ℕ) → Contains colour_numbers c → Beside g.nodes place x c

-- the origin of what is placed in a slot
slot_of : (r : Reg) (l : Loc) (k : ℕ) → l ≡ loc.Slot k → (l ≡ loc.Unset) ⊎ HasColourOrSlot (record r { loc = l }) →
    l ≡ loc.Slot r.origin
slot_of r l k e (inl u) = cc
slot_of r l k e (inr (in_colour n i s)) = cc
slot_of r l k e (inr (in_slot s)) = s

module _ (g : Graph) (h : IsColourable g) where
  -- ---- the graph, by nodes

  joined : (x y : Node) → Contains g.nodes x → Contains x.neighbours y.reg.number → JoinedIn g x.reg.number y.reg.number
  joined x y c j = record { node = x; among = c; number = refl; joins = j }

  joins : (x : Node) (k : ℕ) → Contains g.nodes x → JoinedIn g x.reg.number k → Contains x.neighbours k
  joins x k c j =
      let same : j.node ≡ x = one_of_number g.nodes j.node x h.order j.among c j.number in
      subst (λ (z : Node). Contains z.neighbours k) same j.joins

  back : (x y : Node) → Contains g.nodes x → Contains g.nodes y → Contains x.neighbours y.reg.number →
      Contains y.neighbours x.reg.number
  back x y c d j = joins y x.reg.number d (h.symmetric x.reg.number y.reg.number (joined x y c j))

  alone : (x : Node) → Contains g.nodes x → Contains x.neighbours x.reg.number → ⊥
  alone x c j = h.apart_from_itself x.reg.number (joined x x c j)

  neighbour : (place : Colouring) (x : Node) (k c : ℕ) → Contains g.nodes x → Contains x.neighbours k →
      place k ≡ loc.Machine c →
      Beside g.nodes place x c
  neighbour place x k c i j e =
      let other : JoinedIn g k x.reg.number =
      h.symmetric x.reg.number k (record { node = x; among = i; number = refl; joins = j }) in
      record {
        node = other.node;
        among = other.among;
        joins = subst (λ n. Contains x.neighbours n) (sym other.number) j;
        there = ap place other.number ∙ e;
      }

  -- ---- one choice

  module _ (rest : List Node) (place : Colouring) (x : Node) (good : Good g (x ∷ rest) place)
      (in_x : Contains g.nodes x)
      (free : x.reg.loc ≡ loc.Unset) (apart : (y : Node) → Contains rest y → y.reg.number ≡ x.reg.number → ⊥)
      (here : Loc)
      (chose : InColour colour_numbers place x here ⊎ InSlot colour_numbers place x here) where
    abbrev then : Colouring
    then = colouring_with place x.reg.number here

    which : (y : Node) → Contains g.nodes y →
        ((y ≡ x) × (then y.reg.number ≡ here)) ⊎
        ((y.reg.number ≡ x.reg.number → ⊥) × (then y.reg.number ≡ place y.reg.number))
    which y c =
        ⊎_elim
        (λ e. inl (one_of_number g.nodes y x h.order c in_x e, put_here place x.reg.number here y.reg.number e))
        (λ ne. inr (ne, put_other place x.reg.number here y.reg.number ne))
        (cases_eq y.reg.number x.reg.number)

    is_set : here ≡ loc.Unset → ⊥
    is_set e = ⊎_elim (λ c. let s = c.is in cc) (λ c. let s = c.is in cc) chose

    placed_here : HasColourOrSlot (record (x.reg) { loc = here })
    placed_here = ⊎_elim (λ c. in_colour c.colour c.among c.is) (λ c. in_slot c.is) chose

    stays : (y : Node) → Contains g.nodes y → (y.reg.loc ≡ loc.Unset) ⊎ (then y.reg.number ≡ y.reg.loc)
    stays y c =
        ⊎_elim
        (λ w. inl (subst (λ (z : Node). z.reg.loc ≡ loc.Unset) (sym w.0) free))
        (λ w. ⊎_elim (λ u. inl u) (λ e. inr (w.1 ∙ e)) (good.stays y c))
        (which y c)

    places : (y : Node) → Contains g.nodes y → (then y.reg.number ≡ loc.Unset) ⊎ HasColourOrSlot (placed_by then y.reg)
    places y c =
        ⊎_elim
        (λ w.
        let at_here : HasColourOrSlot (record (y.reg) { loc = here }) =
        subst (λ (z : Node). HasColourOrSlot (record (z.reg) { loc = here })) (sym w.0) placed_here in
        inr (subst (λ l. HasColourOrSlot (record (y.reg) { loc = l })) (sym w.1) at_here))
        (λ w.
        ⊎_elim (λ u. inl (w.1 ∙ u)) (λ p. inr (subst (λ l. HasColourOrSlot (record (y.reg) { loc = l })) (sym w.1) p))
        (good.places y c))
        (which y c)

    waits : (y : Node) → Contains g.nodes y → then y.reg.number ≡ loc.Unset → Contains rest y
    waits y c u =
        ⊎_elim
        (λ w. absurd (is_set (sym w.1 ∙ u)))
        (λ w.
        ⊎_elim (λ e. absurd (w.0 (ap (λ (z : Node). z.reg.number) (sym e)))) (λ d. d)
        (in_cons x y rest (good.waits y c (sym w.1 ∙ u))))
        (which y c)

    waiting : (y : Node) → Contains rest y → then y.reg.number ≡ loc.Unset
    waiting y c = put_other place x.reg.number here y.reg.number (apart y c) ∙ good.waiting y (later_in x y rest c)

    -- who joins the node and is where it is, is in the slot of its origin
    shares : (z : Node) → Contains g.nodes z → Contains x.neighbours z.reg.number → place z.reg.number ≡ here →
        (z.reg.origin ≡ x.reg.origin) × (here ≡ loc.Slot x.reg.origin)
    shares z c j e =
        ⊎_elim
        (λ s. absurd (s.free z.reg.number j (e ∙ s.is)))
        (λ s.
        let there : place z.reg.number ≡ loc.Slot x.reg.origin = e ∙ s.is in
        let own : place z.reg.number ≡ loc.Slot z.reg.origin =
        slot_of z.reg (place z.reg.number) x.reg.origin there (good.places z c) in
        (cc, s.is))
        chose

    stand_apart : (y z : Node) → Contains g.nodes y → Contains g.nodes z → Contains y.neighbours z.reg.number →
        (then y.reg.number ≡ loc.Unset → ⊥) → then y.reg.number ≡ then z.reg.number →
        MayShare (placed_by then y.reg) (placed_by then z.reg)
    stand_apart y z c d j set e =
        ⊎_elim
        (λ w. ⊎_elim
        (λ v.
        let same : z ≡ y = v.0 ∙ sym w.0 in
        absurd (alone y c (subst (λ (a : Node). Contains y.neighbours a.reg.number) same j)))
        (λ v.
        let s = shares z d (subst (λ (a : Node). Contains a.neighbours z.reg.number) w.0 j) (sym v.1 ∙ sym e ∙ w.1) in
        let o : y.reg.origin ≡ x.reg.origin = ap (λ (a : Node). a.reg.origin) w.0 in
        (o ∙ sym s.0, w.1 ∙ s.1 ∙ ap loc.Slot (sym o)))
        (which z d))
        (λ w. ⊎_elim
        (λ v.
        let s = shares y c (back y x c in_x (subst (λ (a : Node). Contains y.neighbours a.reg.number) v.0 j))
        (sym w.1 ∙ e ∙ v.1) in
        let o : z.reg.origin ≡ x.reg.origin = ap (λ (a : Node). a.reg.origin) v.0 in
        (s.0 ∙ sym o, e ∙ v.1 ∙ s.1 ∙ ap loc.Slot (sym s.0)))
        (λ v.
        let s = good.apart y z c d j (λ u. set (w.1 ∙ u)) (sym w.1 ∙ e ∙ v.1) in
        (s.0, w.1 ∙ s.1))
        (which z d))
        (which y c)

    beside : (y : Node) (c : ℕ) → Contains g.nodes y → Beside g.nodes place y c → Beside g.nodes then y c
    beside y c i b =
        let ne : b.node.reg.number ≡ x.reg.number → ⊥ = λ e.
        let u : place x.reg.number ≡ loc.Unset = good.waiting x (first_in x rest) in
        let m : place b.node.reg.number ≡ loc.Machine c = b.there in
        let k : place b.node.reg.number ≡ place x.reg.number = ap place e in
        cc in
        record {
          node = b.node;
          among = b.among;
          joins = b.joins;
          there = put_other place x.reg.number here b.node.reg.number ne ∙ b.there;
        }

    full : (y : Node) → Contains g.nodes y → y.reg.loc ≡ loc.Unset → (k : ℕ) → then y.reg.number ≡ loc.Slot k →
        (c : ℕ) → Contains colour_numbers c → Beside g.nodes then y c
    full y i open_y k e c among =
        ⊎_elim
        (λ w. ⊎_elim
        (λ s. let a : here ≡ loc.Machine s.colour = s.is in let b : here ≡ loc.Slot k = sym w.1 ∙ e in cc)
        (λ s.
        let t = s.full c among in
        let j : Contains y.neighbours t.number =
        subst (λ (a : Node). Contains a.neighbours t.number) (sym w.0) t.among in
        beside y c i (neighbour place y t.number c i j t.there))
        chose)
        (λ w. beside y c i (good.full y i open_y k (sym w.1 ∙ e) c among))
        (which y i)

    one_more : Good g rest then
    one_more = record {
      stays = stays;
      places = places;
      waits = waits;
      waiting = waiting;
      apart = stand_apart;
      full = full;
    }

  -- ---- all choices

  all_chosen : (fresh : ℕ) (order : List Node) (place : Colouring) → Good g order place →
      ((x : Node) → Contains order x → Contains g.nodes x × (x.reg.loc ≡ loc.Unset)) →
      AllPairs (IsColouredBefore (fixed g) fresh) order → Good g [] (greedily_coloured g place order)
  all_chosen fresh [] place good members up = good
  all_chosen fresh (x ∷ rest) place good members up =
      let here : Contains g.nodes x × (x.reg.loc ≡ loc.Unset) = members x (first_in x rest) in
      let apart : (y : Node) → Contains rest y → y.reg.number ≡ x.reg.number → ⊥ = λ y c e.
      let same : y ≡ x = one_of_number g.nodes y x h.order (members y (later_in x y rest c)).0 here.0 e in
      let before : IsColouredBefore (fixed g) fresh x y = pairs_first (IsColouredBefore (fixed g) fresh) x rest up y c in
      let self : IsColouredBefore (fixed g) fresh x x = subst (IsColouredBefore (fixed g) fresh x) same before in
      strict_order (fixed g) fresh x x self self in
      all_chosen fresh rest (colouring_with place x.reg.number (chosen_location g place x))
      (one_more rest place x good here.0 here.1 apart (chosen_location g place x) (choice g place x))
      (λ y c. members y (later_in x y rest c)) (pairs_later (IsColouredBefore (fixed g) fresh) x rest up)

  -- ---- before all choices

  fixed_at : (x : Node) → Contains g.nodes x → fixed g x.reg.number ≡ x.reg.loc
  fixed_at x c = ap location_of_node (found_at g.nodes x h.order c)

  start : {fresh : ℕ} (order : List Node) → IsOrder fresh g order → Good g order (fixed g)
  start order is = record {
    stays = λ x c. inr (fixed_at x c);
    places = λ x c. ⊎_elim (λ u. inl (fixed_at x c ∙ u))
        (λ p. inr (subst (λ l. HasColourOrSlot (record (x.reg) { loc = l })) (sym (fixed_at x c)) p))
        (h.agree.places x.reg (in_graph g.nodes x c));
    waits = λ x c u. (is.exact x).1 (c, sym (fixed_at x c) ∙ u);
    waiting = λ x c. let i = (is.exact x).0 c in fixed_at x i.0 ∙ i.1;
    apart = λ x y c d j set e.
        let s = h.agree.apart x.reg y.reg (in_graph g.nodes x c) (in_graph g.nodes y d) (joined x y c j)
        (λ u. set (fixed_at x c ∙ u)) (sym (fixed_at x c) ∙ e ∙ fixed_at y d) in
        (s.0, fixed_at x c ∙ s.1);
    full = λ x c u k e n i.
        let f : fixed g x.reg.number ≡ x.reg.loc = fixed_at x c in cc;
  }

  -- ---- after them

  module _ (place : Colouring) (good : Good g [] place) where
    is_placed : (x : Node) → Contains g.nodes x → HasColourOrSlot (placed_by place x.reg)
    is_placed x c = ⊎_elim (λ u. absurd (none_in x (good.waits x c u))) (λ p. p) (good.places x c)

    has_place : (x : Node) → Contains g.nodes x → place x.reg.number ≡ loc.Unset → ⊥
    has_place x c u = none_in x (good.waits x c u)

    is_apart : (r q : Reg) → InGraph g r → InGraph g q → JoinedIn g r.number q.number →
        place r.number ≡ place q.number → MayShare (placed_by place r) (placed_by place q)
    is_apart r q c d =
        let w = node_of g.nodes r c in
        let v = node_of g.nodes q d in
        subst (λ (a : Reg). JoinedIn g r.number a.number → place r.number ≡ place a.number →
        MayShare (placed_by place r) (placed_by place a)) v.same
        (subst (λ (a : Reg). JoinedIn g a.number v.node.reg.number → place a.number ≡ place v.node.reg.number →
        MayShare (placed_by place a) (placed_by place v.node.reg)) w.same
        (λ j e. good.apart w.node v.node w.among v.among (joins w.node v.node.reg.number w.among j)
        (has_place w.node w.among) e))

    is_full : (r : Reg) → InGraph g r → r.loc ≡ loc.Unset → (k : ℕ) → place r.number ≡ loc.Slot k → (n : ℕ) →
        Contains colour_numbers n →
        (q : Reg) × InGraph g q × JoinedIn g r.number q.number × (place q.number ≡ loc.Machine n)
    is_full r c =
        let w = node_of g.nodes r c in
        subst (λ (a : Reg). a.loc ≡ loc.Unset → (k : ℕ) → place a.number ≡ loc.Slot k → (n : ℕ) → Contains colour_numbers n →
        (q : Reg) × InGraph g q × JoinedIn g a.number q.number × (place q.number ≡ loc.Machine n)) w.same
        (λ u k e n i.
        let b = good.full w.node w.among u k e n i in
        (b.node.reg, in_graph g.nodes b.node b.among, joined w.node b.node w.among b.joins, b.there))

    is_colouring : IsProperColouring (InGraph g) (JoinedIn g) place
    is_colouring = record {
      fixed = λ r c. let w = node_of g.nodes r c in
          subst (λ (a : Reg). (a.loc ≡ loc.Unset) ⊎ (place a.number ≡ a.loc)) w.same (good.stays w.node w.among);
      places = λ r c. let w = node_of g.nodes r c in
          subst (λ (a : Reg). HasColourOrSlot (placed_by place a)) w.same (is_placed w.node w.among);
      apart = is_apart;
    }

  module _ {fresh : ℕ} {c : Colours} (by : IsGreedyColouring fresh g c) where
    abbrev all_places : Colouring
    all_places = greedily_coloured g (fixed g) by.order

    all_good : Good g [] all_places
    all_good = all_chosen fresh by.order (fixed g) (start by.order by.ordered) (λ x i. (by.ordered.exact x).0 i) by.ordered.sorted

    same_places : all_places ≡ coloured_location c
    same_places = sym (fun_ext by.places)

    -- what is coloured by the definition is a colouring
    pub is_safe : IsProperColouring (InGraph g) (JoinedIn g) (coloured_location c)
    is_safe = subst (λ p. IsProperColouring (InGraph g) (JoinedIn g) p) same_places (is_colouring all_places all_good)

    -- with no needless slot
    pub no_needless_slot : NoNeedlessSlot (InGraph g) (JoinedIn g) (coloured_location c)
    no_needless_slot =
        subst (λ p. NoNeedlessSlot (InGraph g) (JoinedIn g) p) same_places (record { full = is_full all_places all_good })

-- ---- numbers of no register

none_put : (g : Graph) (order : List Node) (place : Colouring) (n : ℕ) →
    ((x : Node) → Contains order x → x.reg.number ≡ n → ⊥) → greedily_coloured g place order n ≡ place n
none_put g [] place n none = refl
none_put g (x ∷ rest) place n none =
    none_put g rest (colouring_with place x.reg.number (chosen_location g place x)) n (λ y c. none y (later_in x y rest c)) ∙
    put_other place x.reg.number (chosen_location g place x) n (λ e. none x (first_in x rest) (sym e))

pub others_unset : (fresh : ℕ) (g : Graph) → OthersAreUnset fresh g
others_unset fresh g c by n none =
    let no_node : (x : Node) → Contains g.nodes x → x.reg.number ≡ n → ⊥ = λ x i e.
    none x.reg (in_graph g.nodes x i) e in
    by.places n ∙ none_put g by.order (fixed g) n (λ x i. no_node x ((by.ordered.exact x).0 i).0) ∙
    ap location_of_node (missing g.nodes n no_node)
