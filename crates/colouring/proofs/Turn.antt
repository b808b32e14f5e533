-- The tables say what the definition says, and each turn goes on with it.
use Rattle.std.proofs.Common.{◌≡◌, ℕ, zero, suc, ◌+◌, ◌<◌, ⊎_elim, Bool, true, false, cond, nat_eq, nat_lt, List, [], ◌∷◌, Option, Some, None, length, drop, get_or, set, Bor, ◌≤◌, refl, sym, ap, ◌∙◌, subst, arith}
use Rattle.std.proofs.Math.Path.{fun_ext}
use Rattle.std.proofs.Math.Seq.{drop-cons}
use Rattle.std.specs.List.{Contains, filter}
use Rattle.std.proofs.lemmas.Bool.{ltb-true, eq-eqb, ne_eqb, cases_eq}
use Rattle.std.proofs.lemmas.List.Elements.{All-contains}
use Rattle.bs_words.specs.declared.types.Loc.{Loc}
use Rattle.bs_words.specs.declared.types.Loc.TheVariants as loc
use Rattle.bs_words.proofs.Lists.{none_in, first_in, later_in, in_cons}
use Rattle.mach_ir.specs.Placed.{Colouring, colour_numbers}
use Rattle.mach_ir.specs.declared.graph.Node.{Node}
use Rattle.mach_ir.specs.declared.graph.Graph.{Graph}
use Rattle.mach_ir.specs.declared.graph.Colours.{Colours}
use Rattle.colouring.specs.declared.merit.Merit.{Merit}
use Rattle.colouring.specs.declared.tallies.Tallies.{Tallies}
use Rattle.colouring.specs.Chosen.{merit, count_in_colour, wanted_by, is_better, is_free_colour, better_colour, first_best, place_for, colouring_with, fixed, chosen_location, greedily_coloured, IsOrder, IsGreedyColouring}
use Rattle.colouring.specs.Tables.{referred, IsNodeIndex, places_by, count_at, merit_by, free_by}
use Rattle.colouring.proofs.Found.{in_filter}
use Rattle.colouring.proofs.Choice.{best_in}

-- ---- the choice by the tables

kept_alike : (m m' : ℕ → Merit) (c : ℕ) (cs : List ℕ) → ((d : ℕ) → Contains (c ∷ cs) d → m d ≡ m' d) → (o : Option ℕ) →
    first_best m cs ≡ o → better_colour m c o ≡ better_colour m' c o
kept_alike m m' c cs h None e = refl
kept_alike m m' c cs h (Some l) e =
    ap (λ (a : Merit). cond (is_better a (m c)) l c) (h l (later_in c l cs (best_in m cs l e))) ∙
    ap (λ (b : Merit). cond (is_better (m' l) b) l c) (h c (first_in c cs))

best_alike : (m m' : ℕ → Merit) (cs : List ℕ) → ((c : ℕ) → Contains cs c → m c ≡ m' c) →
    first_best m cs ≡ first_best m' cs
best_alike m m' [] h = refl
best_alike m m' (c ∷ cs) h =
    ap (λ k. Some k) (kept_alike m m' c cs h (first_best m cs) refl) ∙
    ap (λ o. Some (better_colour m' c o)) (best_alike m m' cs (λ d i. h d (later_in c d cs i)))

filter_alike : (p q : ℕ → Bool) (cs : List ℕ) → ((c : ℕ) → Contains cs c → p c ≡ q c) → filter p cs ≡ filter q cs
filter_alike p q [] h = refl
filter_alike p q (c ∷ cs) h =
    ap (λ (t : Bool). cond t (c ∷ filter p cs) (filter p cs)) (h c (first_in c cs)) ∙
    ap (λ l. cond (q c) (c ∷ l) l) (filter_alike p q cs (λ d i. h d (later_in c d cs i)))

are_below : List ℕ → Bool
are_below [] = true
are_below (c ∷ cs) = cond (nat_lt c 32) (are_below cs) false

below : (cs : List ℕ) → are_below cs ≡ true → (c : ℕ) → Contains cs c → c < 32
unfolding are_below
below [] e c i = absurd (none_in c i)
below (d ∷ ds) e c i = by (below ds) (nat_lt d 32) refl e
  where
    by : (are_below ds ≡ true → (c : ℕ) → Contains ds c → c < 32) → (t : Bool) → nat_lt d 32 ≡ t →
        cond t (are_below ds) false ≡ true → c < 32
    by later true a b = ⊎_elim (λ same. subst (λ n. n < 32) same (ltb-true d 32 a)) (λ j. later b c j)
        (in_cons d c ds i)
    by later false a b = cc

colours_below : (c : ℕ) → Contains colour_numbers c → c < 32
unfolding are_below
colours_below = below colour_numbers refl

module _ (g : Graph) (place : Colouring) (x : Node) (t : Tallies)
    (near : (c : ℕ) → c < 32 → count_at t.near c ≡ count_in_colour place c x.neighbours)
    (own : (c : ℕ) → c < 32 → count_at t.own c ≡ count_in_colour place c x.moves)
    (wanted : (c : ℕ) → c < 32 → count_at t.wanted c ≡ wanted_by g place c x.neighbours) where
  merit_same : (c : ℕ) → c < 32 → merit_by t c ≡ merit g place x c
  merit_same c lt =
      ap (λ (n : ℕ). let m : Merit = record { own = n; wanted = count_at t.wanted c } in m) (own c lt) ∙
      ap (λ (n : ℕ). let m : Merit = record { own = count_in_colour place c x.moves; wanted = n } in m) (wanted c lt)

  best_same : (cs : List ℕ) → ((c : ℕ) → Contains cs c → c < 32) →
      first_best (merit_by t) (filter (free_by t) cs) ≡ first_best (merit g place x) (filter (is_free_colour place x) cs)
  best_same cs h =
      best_alike (merit_by t) (merit g place x) (filter (free_by t) cs)
      (λ c i. merit_same c (h c (in_filter (free_by t) cs c i).0)) ∙
      ap (first_best (merit g place x))
      (filter_alike (free_by t) (is_free_colour place x) cs (λ c i. ap (λ n. nat_eq n 0) (near c (h c i))))

  pub chosen_same : place_for x.reg (first_best (merit_by t) (filter (free_by t) colour_numbers)) ≡ chosen_location g place x
  unfolding chosen_location
  chosen_same = ap (place_for x.reg) (best_same colour_numbers colours_below)

-- ---- one turn

set_here : (places : List Loc) (n : ℕ) (here d : Loc) → n < length places → get_or (set places n here) n d ≡ here
set_here [] n here d lt = absurd (omega (arith, lt))
set_here (p ∷ ps) zero here d lt = refl
set_here (p ∷ ps) (suc n) here d lt = set_here ps n here d (omega (arith, lt))

set_other : (places : List Loc) (n k : ℕ) (here d : Loc) → (k ≡ n → ⊥) →
    get_or (set places n here) k d ≡ get_or places k d
set_other [] n k here d ne = refl
set_other (p ∷ ps) zero zero here d ne = absurd (ne refl)
set_other (p ∷ ps) zero (suc k) here d ne = refl
set_other (p ∷ ps) (suc n) zero here d ne = refl
set_other (p ∷ ps) (suc n) (suc k) here d ne = set_other ps n k here d (λ e. ne (ap suc e))

places_set : (places : List Loc) (n : ℕ) (here : Loc) → n < length places →
    places_by (set places n here) ≡ colouring_with (places_by places) n here
places_set places n here lt = fun_ext (λ k.
    ⊎_elim
    (λ e. subst (λ j. get_or (set places n here) j loc.Unset ≡ here) (sym e) (set_here places n here loc.Unset lt) ∙
    sym (ap (λ (b : Bool). cond b here (places_by places k)) (eq-eqb k n e)))
    (λ ne. set_other places n k here loc.Unset ne ∙
    sym (ap (λ (b : Bool). cond b here (places_by places k)) (ne_eqb k n ne)))
    (cases_eq k n))

pub one_turn : (g : Graph) (places : List Loc) (x : Node) (rest : List Node) (here : Loc) →
    x.reg.number < length places →
    here ≡ chosen_location g (places_by places) x →
    greedily_coloured g (places_by (set places x.reg.number here)) rest ≡ greedily_coloured g (places_by places) (x ∷ rest)
one_turn g places x rest here lt e =
    ap (λ p. greedily_coloured g p rest) (places_set places x.reg.number here lt ∙ ap (colouring_with (places_by places) x.reg.number) e)

-- ---- the turns, by references

pub among_referred : (xs : List (Bor Node)) (b : Bor Node) → Contains xs b → Contains (referred xs) b.now
among_referred [] b i = absurd (none_in b i)
among_referred (x ∷ xs) b i =
    ⊎_elim
    (λ e. subst (λ (a : Bor Node). Contains (x.now ∷ referred xs) a.now) e (first_in x.now (referred xs)))
    (λ j. later_in x.now b.now (referred xs) (among_referred xs b j))
    (in_cons x b xs i)

-- the number of a node in the order is within the table
pub is_within : {fresh : ℕ} (g : Graph) (indices : List (Option ℕ)) (items : List (Bor Node)) (i : ℕ) (b : Bor Node) →
    IsNodeIndex g.nodes indices → IsOrder fresh g (referred items) → i < length items → b ≡ get_or items i b →
    b.now.reg.number < length indices
is_within g indices items i b table order lt is =
    let among : Contains g.nodes b.now = ((order.exact b.now).0 (among_referred items b (i, lt, sym is))).0 in
    All-contains (λ (x : Node). x.reg.number < length indices) g.nodes b.now table.has among

pub goes_on : (g : Graph) (places : List Loc) (items : List (Bor Node)) (i : ℕ) (b : Bor Node) (here : Loc)
    (all : Colouring) →
    i < length items → b ≡ get_or items i b → b.now.reg.number < length places →
    here ≡ chosen_location g (places_by places) b.now →
    greedily_coloured g (places_by places) (referred (drop i items)) ≡ all →
    greedily_coloured g (places_by (set places b.now.reg.number here)) (referred (drop (i + 1) items)) ≡ all
goes_on g places items i b here all lt is within e before =
    let rest : List (Bor Node) = drop (i + 1) items in
    let next : i + 1 ≡ suc i = omega arith in
    let split : drop i items ≡ b ∷ rest =
    drop-cons items i b lt ∙ ap (λ (a : Bor Node). a ∷ drop (suc i) items) (sym is) ∙
    ap (λ (n : ℕ). b ∷ drop n items) (sym next) in
    one_turn g places b.now (referred rest) here within e ∙
    ap (λ (l : List (Bor Node)). greedily_coloured g (places_by places) (referred l)) (sym split) ∙ before

none_left : (items : List (Bor Node)) (i : ℕ) → length items ≤ i → drop i items ≡ []
none_left [] zero le = refl
none_left [] (suc i) le = refl
none_left (x ∷ xs) zero le = absurd (omega (arith, le))
none_left (x ∷ xs) (suc i) le = none_left xs i (omega (arith, le))

pub is_coloured : {fresh : ℕ} (g : Graph) (places : List Loc) (items : List (Bor Node)) (i : ℕ) (c : Colours) →
    IsOrder fresh g (referred items) →
    length items ≤ i → c.places ≡ places →
    greedily_coloured g (places_by places) (referred (drop i items)) ≡ greedily_coloured g (fixed g) (referred items) → IsGreedyColouring fresh g c
is_coloured g places items i c order le same done = record {
  order = referred items;
  ordered = order;
  places = λ n.
      ap (λ (l : List Loc). get_or l n loc.Unset) same ∙
      ap (λ (l : List (Bor Node)). greedily_coloured g (places_by places) (referred l) n) (sym (none_left items i le)) ∙
      ap (λ (p : Colouring). p n) done;
}
