-- Graphs that are made from their ends, of the places of another that are taken from its end.
use Rattle.std.proofs.Common.{◌≡◌, ◌↔◌, ℕ, suc, ◌+◌, ◌<◌, ◌≤◌, Bool, List, [], ◌∷◌, ◌++◌, Some, None, map, length, drop, refl, sym, ap, ◌∙◌, subst, append_assoc, arith}
use Rattle.std.proofs.Math.Seq.{drop-length, drop-cons}
use Rattle.std.proofs.lemmas.List.{length-append}
use Rattle.std.specs.Prelude.{slice_index_or, option_to_list, IsSome, Option}
use Rattle.bs_words.specs.Contents.{contents}
use Rattle.dataflow.specs.Flow.{IsBare}
use Rattle.dataflow.specs.declared.flow.Flow as flow
use Rattle.dataflow.specs.declared.flow.Place as place
use Rattle.mach_ir.specs.Meaning.{registers_written}
use Rattle.mach_ir.specs.declared.mach.Instr.{Instr}
use Rattle.mach_ir.specs.declared.mach.Mach.{Mach}
use Rattle.mach_laws.specs.Graph.{code_index, numbers_of_registers, next_places, raise_places, numbers_written, IsFlowOf}
use Rattle.liveness.proofs.Lists.{place_next}
use Rattle.sink.specs.Graphs.{IsSinkEntry, AreOver, IsStalePlace, IsStaleNode, AreStaleNodes, at_end, before, IsTurned, AreTurned, turned_end, turned_before}

-- what is left of a list
pub record Rest (all items : List place.Place) : Type 0 where
  pub done : List place.Place
  pub whole : items ++ done ≡ all

-- and what has been made of the rest
pub record Turning (all items made : List place.Place) : Type 0 where
  pub done : List place.Place
  pub whole : items ++ done ≡ all
  pub turned : AreTurned done made

-- the last item of a list that has one
pub popped : (all new : List place.Place) (o : Option place.Place) (n : ℕ) → n ≡ length all → all ≡ new ++ option_to_list o → 0 < length all →
    (IsSome o ↔ (0 < n)) →
    (x : place.Place) × (all ≡ new ++ x ∷ [])
popped all new (Some x) n k e some h = (x, e)
popped all new None n k e some h = absurd (bad (h.1 (subst (λ n. 0 < n) (sym k) some)))
  where
    bad : IsSome {T = place.Place} None → ⊥
    bad h = cc

shifted : (all items rest done : List place.Place) (x : place.Place) → items ≡ rest ++ x ∷ [] → items ++ done ≡ all → rest ++ x ∷ done ≡ all
shifted all items rest done x e w = sym (append_assoc rest (x ∷ []) done) ∙ ap (λ xs. xs ++ done) (sym e) ∙ w

pub turning_begun : (all new old made : List place.Place) (o : Option place.Place) (y : place.Place) (n : ℕ) → n ≡ length all →
    all ≡ new ++ option_to_list o → 0 < length all → (IsSome o ↔ (0 < n)) → IsBare y → old ≡ [] → made ≡ y ∷ old → Turning all new made
turning_begun all new old made o y n k e some h bare none m =
    let p = popped all new o n k e some h in
    record { done = p.0 ∷ []; whole = sym p.1; turned = subst (AreTurned (p.0 ∷ [])) (sym (m ∙ ap (λ xs. y ∷ xs) none)) (turned_end bare) }

pub turning_more : (all items rest old made : List place.Place) (x y : place.Place) → items ≡ rest ++ x ∷ [] → IsTurned x y → made ≡ y ∷ old →
    Turning all items old → Turning all rest made
turning_more all items rest old made x y e t m before_it =
    record {
      done = x ∷ before_it.done;
      whole = shifted all items rest before_it.done x e before_it.whole;
      turned = subst (AreTurned (x ∷ before_it.done)) (sym m) (turned_before t before_it.turned);
    }

-- ---- the graph of what is stale

part_at : (part : place.Place → List ℕ) (xs ys : List place.Place) (x : place.Place) → slice_index_or (map part (xs ++ x ∷ ys)) (length xs) [] ≡ part x
part_at part [] ys x = refl
part_at part (z ∷ xs) ys x = part_at part xs ys x

module _ (m : Mach) (rows : List (List Bool)) (old : flow.Flow) (is : IsFlowOf m old) where
  none_left : (k : ℕ) → k ≡ length m.code → drop k m.code ≡ []
  none_left k e = ap (λ k. drop k m.code) e ∙ drop-length m.code

  -- how many are left once the last is taken
  pub taken_last : (all new : List place.Place) (o : Option place.Place) (n : ℕ) → n ≡ length all → all ≡ contents old.places → all ≡ new ++ option_to_list o →
      (IsSome o ↔ (0 < n)) → length new ≡ length m.code
  taken_last all new o n count same e h =
      let long : length all ≡ suc (length m.code) = ap length same ∙ is.places in
      let p = popped all new o n count e (omega (arith, long)) h in
      let k : length all ≡ length new + 1 = ap length p.1 ∙ length-append new (p.0 ∷ []) in
      omega (arith, long, k)

  pub rest_begun : (all new : List place.Place) (o : Option place.Place) → all ≡ contents old.places → all ≡ new ++ option_to_list o →
      Rest (contents old.places) new
  rest_begun all new o same e = record { done = option_to_list o; whole = sym e ∙ same }

  pub nodes_begun : (k : ℕ) (last : place.Place) (before_it nodes : List place.Place) → k ≡ length m.code → IsSinkEntry m rows last → before_it ≡ [] →
      nodes ≡ last ∷ before_it → AreStaleNodes m rows (drop k m.code) nodes
  nodes_begun k last before_it nodes e entry none made =
      subst (λ rest. AreStaleNodes m rows rest nodes) (sym (none_left k e))
      (subst (AreStaleNodes m rows []) (sym (made ∙ ap (λ xs. last ∷ xs) none)) (at_end entry))

  pub rest_more : (items rest : List place.Place) (x : place.Place) → items ≡ rest ++ x ∷ [] → Rest (contents old.places) items →
      Rest (contents old.places) rest
  rest_more items rest x e r = record { done = x ∷ r.done; whole = shifted (contents old.places) items rest r.done x e r.whole }

  pub nodes_more : (items rest : List place.Place) (x y : place.Place) (i : Instr) (before_it nodes : List place.Place) → items ≡ rest ++ x ∷ [] →
      length items ≤ length m.code → i ≡ slice_index_or m.code (length rest) i → Rest (contents old.places) items →
      IsStalePlace rows (length rest + 1) i.op x y → AreStaleNodes m rows (drop (length items) m.code) before_it → nodes ≡ y ∷ before_it →
      AreStaleNodes m rows (drop (length rest) m.code) nodes
  nodes_more items rest x y i before_it nodes e short at r h are made =
      subst (λ code. AreStaleNodes m rows code nodes) (sym here)
      (subst (AreStaleNodes m rows (i ∷ drop (suc (length rest)) m.code)) (sym made)
      (before one (subst (λ k. AreStaleNodes m rows (drop k m.code) before_it) long are)))
    where
      long : length items ≡ suc (length rest)
      long = let k : length items ≡ length rest + 1 = ap length e ∙ length-append rest (x ∷ []) in omega (arith, k)

      here : drop (length rest) m.code ≡ i ∷ drop (suc (length rest)) m.code
      here =
          let lt : length rest < length m.code = let k = long in omega (arith, k, short) in
          drop-cons m.code (length rest) i lt ∙ ap (λ j. j ∷ drop (suc (length rest)) m.code) (sym at)

      part_is : (part : place.Place → List ℕ) → part x ≡ slice_index_or (map part (contents old.places)) (length rest) []
      part_is part =
          sym (part_at part rest r.done x)
          ∙ ap (λ xs. slice_index_or (map part xs) (length rest) []) (shifted (contents old.places) items rest r.done x e r.whole)

      after_is : length rest + 1 ≡ code_index m (drop (suc (length rest)) m.code)
      after_is =
          let a = place_next m (length rest) i (drop (suc (length rest)) m.code) here in
          omega (arith, a)

      writes_is : contents x.writes ≡ numbers_of_registers (registers_written m i)
      writes_is = part_is (λ x. contents x.writes) ∙ is.writes (length rest) ∙ ap (numbers_written m) here

      one : IsStaleNode m rows i (drop (suc (length rest)) m.code) y
      one =
          record {
            next_is = h.next ∙ part_is (λ x. contents x.next) ∙ is.next (length rest) ∙ ap (next_places m) here;
            aside = h.aside ∙ part_is (λ x. contents x.aside) ∙ is.aside (length rest) ∙ ap (raise_places m) here;
            reads = subst (λ k. AreOver rows k i.op (numbers_of_registers (registers_written m i)) (contents y.reads)) after_is
                (subst (λ ws. AreOver rows (length rest + 1) i.op ws (contents y.reads)) writes_is h.reads);
            writes = h.writes ∙ writes_is;
          }

  pub nodes_done : (items nodes all : List place.Place) → items ≡ [] → AreStaleNodes m rows (drop (length items) m.code) nodes → all ≡ nodes →
      AreStaleNodes m rows m.code all
  nodes_done items nodes all none are same =
      subst (λ rest. AreStaleNodes m rows rest all) (ap (λ xs. drop (length xs) m.code) none ∙ whole m.code)
      (subst (AreStaleNodes m rows (drop (length items) m.code)) (sym same) are)
    where
      whole : (xs : List Instr) → drop 0 xs ≡ xs
      whole [] = refl
      whole (x ∷ xs) = refl

  pub fewer : (items rest : List place.Place) (x : place.Place) → items ≡ rest ++ x ∷ [] → length items ≤ length m.code → length rest ≤ length m.code
  fewer items rest x e short = let k : length items ≡ length rest + 1 = ap length e ∙ length-append rest (x ∷ []) in omega (arith, k, short)
