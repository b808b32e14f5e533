-- Where a search begins, and where it ends.
use Rattle.std.proofs.Common.{◌≡◌, ℕ, ◌+◌, ◌<◌, ⊎_elim, Bool, true, ◌&&◌, nat_lt, List, [], ◌∷◌, Some, None, length, drop, refl, sym, ap, ◌∙◌, subst, arith}
use Rattle.std.specs.List.{All, Contains}
use Rattle.std.specs.Prelude.{slice_get, slice_index_or}
use Rattle.std.proofs.lemmas.Bool.{and_parts, ltb-true}
use Rattle.std.proofs.lemmas.List.Elements.{All-contains, All-nil, All-cons}
use Rattle.bs_words.specs.declared.types.Loc.{Loc}
use Rattle.bs_words.specs.declared.types.Loc.TheVariants as loc
use Rattle.bs_words.proofs.Lists.{none_in, in_cons, drop_none}
use Rattle.dataflow.specs.declared.flow.Place as place
use Rattle.mach_ir.specs.Placed.{colour_numbers}
use Rattle.lin_ir.specs.Formed.{IsHome, is_colour, is_slot, IsLocation, is_home, is_spare, Locates, AreLocated}
use Rattle.lin_ir.specs.Walks.{Reached, at_entry}
use Rattle.lin_ir.specs.declared.lin.Spot.{Spot}
use Rattle.lin_ir.specs.declared.lin.Lin.{Lin}
use Rattle.lin_laws.proofs.Reaching.{all_reached}
use Rattle.lin_laws.specs.Graph.{position, HasNumber, HaveNumbers, AreNumbered}
use Rattle.lin_laws.specs.declared.position.Position.{Position}
use Rattle.lin_flow.specs.Nodes.{IsSearchReady, AreWalkedTo, SpreadToAll}
use Rattle.lin_flow.specs.Search.{all_positions, AreGrouped, PositionEntered, Starts}
use Rattle.lin_flow.specs.Walked.{IsWalked}
use Rattle.lin_flow.specs.declared.search.Search.{Search}

-- ---- locations have numbers

abbrev all_low : List ℕ → Bool
all_low [] = true
all_low (x ∷ xs) = nat_lt x 32 && all_low xs

from_tests : (xs : List ℕ) → all_low xs ≡ true → All (λ n. n < 32) xs
from_tests [] e = All-nil (λ n. n < 32)
from_tests (x ∷ xs) e =
    let p = and_parts (nat_lt x 32) (all_low xs) e in
    All-cons (λ n. n < 32) x xs (ltb-true x 32 p.0) (from_tests xs p.1)

colours_low : All (λ n. n < 32) colour_numbers
colours_low = from_tests colour_numbers refl

home_numbered : (m : Lin) (l : Loc) → IsHome m l → HasNumber m.slots l
home_numbered m loc.Unset h = elim h [ ]
home_numbered m (loc.Machine n) (is_colour c) = All-contains (λ n. n < 32) colour_numbers n colours_low c
home_numbered m (loc.Slot k) (is_slot lt) = lt

location_numbered : (m : Lin) (l : Loc) → IsLocation m l → HasNumber m.slots l
location_numbered m l (is_home h) = home_numbered m l h
location_numbered m l (is_spare e) = let P : Loc → Type 0 = HasNumber m.slots in subst P (sym e) (let lt : 5 < 32 = omega arith in lt)

spots_numbered : (m : Lin) (ss : List Spot) → Locates m ss → HaveNumbers m.slots ss
spots_numbered m ss h = λ k d lt. location_numbered m (slice_index_or ss k d).loc (h k d lt)

pub are_numbered : (m : Lin) → AreLocated m → AreNumbered m
are_numbered m h =
    record {
      args = λ k d lt. spots_numbered m (slice_index_or m.code k d).args (h k d lt).0;
      results = λ k d lt. spots_numbered m (slice_index_or m.code k d).results (h k d lt).1;
    }

-- ---- the search

module _ (m : Lin) where
  pub begun_ready : (s0 s1 : Search) (number : ℕ) (nodes : List place.Place) → Starts (length m.code) s0 →
      PositionEntered s0 s1 (position 0 []) number → nodes ≡ [] → IsSearchReady m s1 nodes
  begun_ready s0 s1 number nodes start entry none =
      record {
        groups = entry.grown.len ∙ start.len;
        countable = entry.grown.countable (let none : length (all_positions s0) ≡ 0 = ap length start.positions in omega (arith, none));
        fewer = (let e : length nodes ≡ 0 = ap length none in omega (arith, e));
        are = λ q x node at is. absurd (let f : None ≡ Some node = subst (λ xs. slice_get xs q ≡ Some node) none is in cc);
      }

  begun_walked : (s0 s1 : Search) (number : ℕ) → Starts (length m.code) s0 → PositionEntered s0 s1 (position 0 []) number →
      AreWalkedTo m (all_positions s1)
  begun_walked s0 s1 number start entry =
      record {
        each = λ q x e.
            ⊎_elim (λ f. absurd (let g : None ≡ Some x = subst (λ xs. slice_get xs q ≡ Some x) start.positions f in cc))
            (λ c.
            let same : position 0 [] ≡ x = only c in
            subst (λ (y : Position). Reached m (drop y.place m.code) y.tries) same
            (subst (λ xs. Reached m xs []) (sym (drop_none m.code)) at_entry)) (entry.grown.fresh q x e);
      }
    where
      only : {x : Position} → Contains (position 0 [] ∷ []) x → position 0 [] ≡ x
      only {x} c = ⊎_elim (λ e. e) (λ d. absurd (none_in x d)) (in_cons (position 0 []) x [] c)

  begun_grouped : (s0 : Search) → Starts (length m.code) s0 → AreGrouped s0
  begun_grouped s0 start =
      record { grouped = λ q x e. absurd (let g : None ≡ Some x = subst (λ xs. slice_get xs q ≡ Some x) start.positions e in cc) }

  -- all that walks come to was found
  pub is_walked : (s0 s1 s2 : Search) (number : ℕ) (nodes : List place.Place) → AreNumbered m → Starts (length m.code) s0 →
      PositionEntered s0 s1 (position 0 []) number → SpreadToAll m s1 s2 nodes → IsWalked m s2 nodes
  is_walked s0 s1 s2 number nodes numbered start entry one =
      let len : length nodes ≡ length (all_positions s2) = one.all in
      let walked = one.spreads.walked (begun_walked s0 s1 number start entry) in
      let begun : slice_get (all_positions s2) number ≡ Some (position 0 []) = one.spreads.kept number (position 0 []) entry.here in
      record {
        numbered = numbered;
        grouped = one.spreads.grouped (entry.grown.grouped (begun_grouped s0 start));
        ready = one.spreads.ready;
        all = len;
        reached = record {
          sound = walked.each;
          complete = λ rest tries r.
              all_reached m (m.slots + 32) (all_positions s2) nodes (omega (arith, len)) one.spreads.ready.are (number, begun) r;
        };
      }
