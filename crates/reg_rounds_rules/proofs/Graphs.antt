-- A function has one graph.
use Rattle.std.proofs.Common.{◌≡◌, ℕ, ◌<◌, List, refl, sym, ap, ◌∙◌, subst, arith}
use Rattle.std.specs.List.{AllPairs, Contains}
use Rattle.std.proofs.lemmas.List.Elements.{All-contains}
use Rattle.mach_ir.specs.Graph.{InGraph, IsGraph, moves_of, uses_of}
use Rattle.mach_ir.specs.declared.graph.Graph.{Graph}
use Rattle.mach_ir.specs.declared.graph.Node.{Node}
use Rattle.mach_ir.specs.declared.mach.Mach.{Mach}
use Rattle.mach_ir.specs.declared.reg.Reg.{Reg}
use Rattle.colouring.proofs.Found.{one_of_number}
use Rattle.lin_laws.proofs.Unique.{ordered_same}
use Rattle.colouring_rules.proofs.Lists.{was}
use Rattle.bs_words.proofs.Lists.{mapped}

abbrev Lower : Node → Node → Type 0
Lower x y = x.reg.number < y.reg.number

not_both : (x y : Node) → Lower x y → Lower y x → ⊥
not_both x y l k = omega (arith, l, k)

below_once : (n k : ℕ) → n < k → k < n → ⊥
below_once n k l m = omega (arith, l, m)

abbrev node : Reg → List ℕ → List ℕ → ℕ → Node
node r ns ms u = record { reg = r; neighbours = ns; moves = ms; uses = u }

same_fields : (r q : Reg) (ns ks ms os : List ℕ) (u v : ℕ) → r ≡ q → ns ≡ ks → ms ≡ os → u ≡ v → node r ns ms u ≡ node q ks os v
same_fields r q ns ks ms os u v a b c d = cc

-- ---- two graphs of a function

abbrev graph : List Node → Graph
graph nodes = record { nodes = nodes }

same_graph : (xs ys : List Node) → xs ≡ ys → graph xs ≡ graph ys
same_graph xs ys e = cc

module _ {m : Mach} where
  module _ {g h : Graph} (is : IsGraph m g) (it : IsGraph m h) where
    -- what a node is joined with in one, one of that number is in the other
    over : (x y : Node) → Contains g.nodes x → Contains h.nodes y → x.reg ≡ y.reg → (k : ℕ) → Contains x.neighbours k → Contains y.neighbours k
    over x y c d e k j =
        let at : InGraph g x.reg = mapped (λ (v : Node). v.reg) g.nodes x c in
        let reg = (is.registers x.reg).0 at in
        let joined = (is.edges x.reg reg k).0 (record { node = x; among = c; number = refl; joins = j }) in
        let back = (it.edges x.reg reg k).1 joined in
        let same : back.node ≡ y = one_of_number h.nodes back.node y it.order back.among d (back.number ∙ ap (λ (r : Reg). r.number) e) in
        subst (λ (v : Node). Contains v.neighbours k) same back.joins

  -- each node of one is a node of the other
  within : {g h : Graph} → IsGraph m g → IsGraph m h → (x : Node) → Contains g.nodes x → Contains h.nodes x
  within {g} {h} is it x c =
      let at : InGraph g x.reg = mapped (λ (v : Node). v.reg) g.nodes x c in
      let reg = (is.registers x.reg).0 at in
      let w = was (λ (v : Node). v.reg) h.nodes x.reg ((it.registers x.reg).1 reg) in
      let y = w.what in
      let e : x.reg ≡ y.reg = sym w.same in
      let number : x.reg.number ≡ y.reg.number = ap (λ (r : Reg). r.number) e in
      let neighbours : x.neighbours ≡ y.neighbours =
      ordered_same ◌<◌ below_once x.neighbours y.neighbours (All-contains (λ (v : Node). AllPairs ◌<◌ v.neighbours) g.nodes x is.sorted c)
      (All-contains (λ (v : Node). AllPairs ◌<◌ v.neighbours) h.nodes y it.sorted w.among)
      (over is it x y c w.among e) (over it is y x w.among c (sym e)) in
      let moves : x.moves ≡ y.moves =
      All-contains (λ (v : Node). v.moves ≡ moves_of v.reg.number m.code) g.nodes x is.moves c
      ∙ ap (λ n. moves_of n m.code) number
      ∙ sym (All-contains (λ (v : Node). v.moves ≡ moves_of v.reg.number m.code) h.nodes y it.moves w.among) in
      let uses : x.uses ≡ y.uses =
      All-contains (λ (v : Node). v.uses ≡ uses_of v.reg.number m.code) g.nodes x is.uses c
      ∙ ap (λ n. uses_of n m.code) number
      ∙ sym (All-contains (λ (v : Node). v.uses ≡ uses_of v.reg.number m.code) h.nodes y it.uses w.among) in
      subst (Contains h.nodes) (sym (same_fields x.reg y.reg x.neighbours y.neighbours x.moves y.moves x.uses y.uses e neighbours moves uses)) w.among

  -- A function has one graph.
  pub graph_once : {g h : Graph} → IsGraph m g → IsGraph m h → g ≡ h
  graph_once {g} {h} is it =
      same_graph g.nodes h.nodes (ordered_same Lower not_both g.nodes h.nodes is.order it.order (within is it) (within it is))
