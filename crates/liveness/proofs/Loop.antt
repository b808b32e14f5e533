-- The text of a function read from its end.
use Rattle.std.proofs.Common.{◌≡◌, ℕ, suc, ◌-◌, ◌<◌, ◌≤◌, List, [], ◌∷◌, length, drop, refl, sym, ap, ◌∙◌, subst, arith}
use Rattle.std.proofs.Math.Seq.{drop-length, drop-cons}
use Rattle.std.specs.Prelude.{slice_index_or}
use Rattle.dataflow.specs.Flow.{IsBare}
use Rattle.dataflow.specs.declared.flow.Place as place
use Rattle.mach_ir.specs.Meaning.{tries_at, tries_past}
use Rattle.mach_ir.specs.declared.mach.Instr.{Instr}
use Rattle.mach_ir.specs.declared.mach.Mach.{Mach}
use Rattle.liveness.specs.Nodes.{Uses, IsLivenessNode, AreLivenessNodes, at_end, before}

module _ (m : Mach) where
  none_left : (k : ℕ) → k ≡ length m.code → drop k m.code ≡ []
  none_left k e = ap (λ k. drop k m.code) e ∙ drop-length m.code

  pub tries_begun : (k : ℕ) (tries : List ℕ) → k ≡ length m.code → tries ≡ [] → tries ≡ tries_at (drop k m.code)
  tries_begun k tries e h = h ∙ sym (ap tries_at (none_left k e))

  -- the place after the last instruction, where nothing is read or written there
  pub bare_last : (uses : Uses) (last : place.Place) → uses.reads [] ≡ [] → uses.writes [] ≡ [] → IsBare last → IsLivenessNode m uses [] last
  bare_last uses last reads writes bare =
      record { next = bare.next; aside = bare.aside; reads = bare.reads ∙ sym reads; writes = bare.writes ∙ sym writes }

  pub nodes_begun : (uses : Uses) (k : ℕ) (last : place.Place) (old nodes : List place.Place) → k ≡ length m.code →
      IsLivenessNode m uses [] last → old ≡ [] → nodes ≡ last ∷ old → AreLivenessNodes m uses (drop k m.code) nodes
  nodes_begun uses k last old nodes e node none made =
      subst (λ rest. AreLivenessNodes m uses rest nodes) (sym (none_left k e))
      (subst (AreLivenessNodes m uses []) (sym (made ∙ ap (λ xs. last ∷ xs) none)) (at_end node))

  -- the instruction at a place, and the code after it
  pub code_at_place : (code : List Instr) (left : ℕ) (i : Instr) → code ≡ m.code → 0 < left → left ≤ length m.code →
      i ≡ slice_index_or code (left - 1) i → drop (left - 1) m.code ≡ i ∷ drop left m.code
  code_at_place code left i same some within at =
      let lt : left - 1 < length m.code = omega (arith, some, within) in
      let next : suc (left - 1) ≡ left = omega (arith, some) in
      drop-cons m.code (left - 1) i lt
      ∙ ap (λ x. x ∷ drop (suc (left - 1)) m.code) (sym (at ∙ ap (λ (xs : List Instr). slice_index_or xs (left - 1) i) same))
      ∙ ap (λ k. i ∷ drop k m.code) next

  pub tries_more : (left : ℕ) (i : Instr) (old new : List ℕ) → drop (left - 1) m.code ≡ i ∷ drop left m.code →
      old ≡ tries_at (drop left m.code) → new ≡ tries_past i.op old → new ≡ tries_at (drop (left - 1) m.code)
  tries_more left i old new at was made = made ∙ ap (tries_past i.op) was ∙ sym (ap tries_at at)

  pub nodes_more : (uses : Uses) (left : ℕ) (i : Instr) (node : place.Place) (old new : List place.Place) →
      drop (left - 1) m.code ≡ i ∷ drop left m.code → AreLivenessNodes m uses (drop left m.code) old →
      IsLivenessNode m uses (i ∷ drop left m.code) node → new ≡ node ∷ old → AreLivenessNodes m uses (drop (left - 1) m.code) new
  nodes_more uses left i node old new at nodes one made =
      subst (λ rest. AreLivenessNodes m uses rest new) (sym at) (subst (AreLivenessNodes m uses (i ∷ drop left m.code)) (sym made) (before one nodes))

  pub nodes_done : (uses : Uses) (left : ℕ) (nodes all : List place.Place) → left ≤ 0 → AreLivenessNodes m uses (drop left m.code) nodes →
      all ≡ nodes → AreLivenessNodes m uses m.code all
  nodes_done uses left nodes all none are same =
      let zero_left : left ≡ 0 = omega (arith, none) in
      subst (λ rest. AreLivenessNodes m uses rest all) (ap (λ k. drop k m.code) zero_left ∙ whole m.code)
      (subst (AreLivenessNodes m uses (drop left m.code)) (sym same) are)
    where
      whole : (xs : List Instr) → drop 0 xs ≡ xs
      whole [] = refl
      whole (x ∷ xs) = refl
