-- Members of lists of moves, by recursion on the list, and lists whose targets differ.
use Rattle.std.proofs.Common.{◌≡◌, ◌⊎◌, Bool, true, false, cond, [], ◌∷◌, Some, None, refl, sym, ap, subst, ◌∙◌, inl, inr}
use Rattle.std.proofs.lemmas.Bool.{true≢false}
use Rattle.bs_words.specs.declared.types.Loc.{Loc}
use Rattle.par_moves.specs.declared.moves.Move.{Move}
use Rattle.par_moves.specs.Moves.{Moves, same_place}
use Rattle.par_moves.specs.Resolved.{first_reader, others}
use Rattle.par_moves.proofs.Places.{same_place-true, same_place-refl}

abbrev pub In : Move → Moves → Type 0
In x [] = ⊥
In x (m ∷ ms) = (x ≡ m) ⊎ In x ms

-- no move of the list has the place as its target
abbrev pub NotTo : Loc → Moves → Type 0
NotTo place ms = (x : Move) → In x ms → x.to ≡ place → ⊥

abbrev pub Apart : Moves → Type 0
Apart [] = Unit
Apart (m ∷ ms) = NotTo m.to ms × Apart ms

-- the first that reads a place, and the others
pub record Split (place : Loc) (ms rest : Moves) (c : Move) : Type 0 where
  pub reads : c.from ≡ place
  pub inside : In c ms
  pub back : (x : Move) → In x rest → In x ms
  pub cases : (x : Move) → In x ms → (x ≡ c) ⊎ In x rest
  pub apart : Apart ms → Apart rest
  pub alone : Apart ms → NotTo c.to rest

pub split_first : (place : Loc) (ms : Moves) (c : Move) → first_reader place ms ≡ Some c → Split place ms (others place ms) c
split_first place [] c e = cc
split_first place (m ∷ ms) c e = by (split_first place ms c) (same_place m.from place) refl e where
  by : (first_reader place ms ≡ Some c → Split place ms (others place ms) c) → (t : Bool) → same_place m.from place ≡ t → cond t (Some m) (first_reader place ms) ≡ Some c → Split place (m ∷ ms) (cond t ms (m ∷ others place ms)) c
  by later true s e =
      let is : c ≡ m = cc in
      record {
        reads = ap (λ (x : Move). x.from) is ∙ same_place-true m.from place s;
        inside = inl is;
        back = λ x h. inr h;
        cases = λ x h. elim h [ inl e ↦ inl (e ∙ sym is) | inr k ↦ inr k ];
        apart = λ a. a.1;
        alone = λ a x h e. a.0 x h (e ∙ ap (λ (y : Move). y.to) is);
      }
  by later false s e =
      let r : Split place ms (others place ms) c = later e in
      record {
        reads = r.reads;
        inside = inr r.inside;
        back = λ x h. elim h [ inl e ↦ inl e | inr k ↦ inr (r.back x k) ];
        cases = λ x h. elim h [ inl e ↦ inr (inl e) | inr k ↦ elim (r.cases x k) [ inl e ↦ inl e | inr l ↦ inr (inr l) ] ];
        apart = λ a. (λ x h e. a.0 x (r.back x h) e, r.apart a.1);
        alone = λ a x h e. elim h [ inl is ↦ a.0 c r.inside (sym e ∙ ap (λ (y : Move). y.to) is) | inr k ↦ r.alone a.1 x k e ];
      }

-- what reads a place is found there
pub none_reads : (place : Loc) (ms : Moves) → first_reader place ms ≡ None → (x : Move) → In x ms → x.from ≡ place → ⊥
none_reads place [] e x h r = h
none_reads place (m ∷ ms) e x h r = by (none_reads place ms) (same_place m.from place) refl e h where
  by : (first_reader place ms ≡ None → (x : Move) → In x ms → x.from ≡ place → ⊥) → (t : Bool) → same_place m.from place ≡ t → cond t (Some m) (first_reader place ms) ≡ None → (x ≡ m) ⊎ In x ms → ⊥
  by later true s e h = cc
  by later false s e (inl is) =
      let at : m.from ≡ place = ap (λ (y : Move). y.from) (sym is) ∙ r in
      true≢false (sym (subst (λ (p : Loc). same_place m.from p ≡ true) at (same_place-refl m.from)) ∙ s)
  by later false s e (inr k) = later e x k r
