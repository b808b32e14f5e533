-- The nodes of a graph by their places.
use Rattle.std.proofs.Common.{◌≡◌, ℕ, zero, suc, ◌<◌, Bool, List, [], ◌∷◌, map, length, drop, refl, sym, ap, ◌∙◌, subst, arith}
use Rattle.std.specs.Prelude.{slice_index_or}
use Rattle.bs_words.specs.Contents.{contents}
use Rattle.dataflow.specs.declared.flow.Place as place
use Rattle.mach_ir.specs.declared.mach.Instr.{Instr}
use Rattle.mach_ir.specs.declared.mach.Mach.{Mach}
use Rattle.mach_ir.specs.Meaning.{registers_written}
use Rattle.mach_laws.specs.Graph.{code_index, numbers_of_registers}
use Rattle.sink.specs.Graphs.{AreOver, IsTurned, AreCodeNodes, at_end, before, IsStaleNode, AreStaleNodes, IsFreshNode, AreFreshNodes, AreTurned, turned_end, turned_before}

module _ (E : place.Place → Type 0) (N : Instr → List Instr → place.Place → Type 0) where
  -- the node of an instruction
  pub record At (rest : List Instr) (nodes : List place.Place) (p : ℕ) : Type 0 where
    pub instr : Instr
    pub next : List Instr
    pub is : drop p rest ≡ instr ∷ next
    pub node : place.Place
    pub is_node : N instr next node
    pub item : (d : place.Place) → slice_index_or nodes p d ≡ node
    pub part : (f : place.Place → List ℕ) → slice_index_or (map f nodes) p [] ≡ f node

  pub at_place : {rest : List Instr} {nodes : List place.Place} → AreCodeNodes E N rest nodes → (p : ℕ) → p < length rest → At rest nodes p
  at_place (at_end n) p lt = absurd (omega (arith, lt))
  at_place (before {i = i} {next = next} {node = node} n ns) zero lt =
      record { instr = i; next = next; is = refl; node = node; is_node = n; item = λ d. refl; part = λ f. refl }
  at_place (before n ns) (suc p) lt =
      let a = at_place ns p (omega (arith, lt)) in
      record { instr = a.instr; next = a.next; is = a.is; node = a.node; is_node = a.is_node; item = a.item; part = a.part }

  -- the one of its end
  pub record AtEnd (rest : List Instr) (nodes : List place.Place) : Type 0 where
    pub node : place.Place
    pub is_end : E node
    pub item : (d : place.Place) → slice_index_or nodes (length rest) d ≡ node
    pub part : (f : place.Place → List ℕ) → slice_index_or (map f nodes) (length rest) [] ≡ f node

  pub at_last : {rest : List Instr} {nodes : List place.Place} → AreCodeNodes E N rest nodes → AtEnd rest nodes
  at_last (at_end {node = node} n) = record { node = node; is_end = n; item = λ d. refl; part = λ f. refl }
  at_last (before n ns) = let a = at_last ns in record { node = a.node; is_end = a.is_end; item = a.item; part = a.part }

  pub past : {rest : List Instr} {nodes : List place.Place} → AreCodeNodes E N rest nodes → (p : ℕ) → length rest < p → (f : place.Place → List ℕ) →
      slice_index_or (map f nodes) p [] ≡ []
  past (at_end n) zero lt f = absurd (omega (arith, lt))
  past (at_end n) (suc p) lt f = refl
  past (before n ns) zero lt f = absurd (omega (arith, lt))
  past (before n ns) (suc p) lt f = past ns p (omega (arith, lt)) f

  pub count : {rest : List Instr} {nodes : List place.Place} → AreCodeNodes E N rest nodes → length nodes ≡ suc (length rest)
  count (at_end n) = refl
  count (before n ns) = ap suc (count ns)

-- the graph of what is stale, turned, is that of what is fresh
turned_node : (m : Mach) (rows : List (List Bool)) (i : Instr) (next : List Instr) (x y : place.Place) → IsStaleNode m rows i next x → IsTurned x y →
    IsFreshNode m rows i next y
turned_node m rows i next x y n t =
    record {
      next_is = ap contents t.next ∙ n.next_is;
      aside = ap contents t.aside ∙ n.aside;
      reads = ap contents t.reads ∙ n.writes;
      writes = subst (AreOver rows (code_index m next) i.op (numbers_of_registers (registers_written m i))) (sym (ap contents t.writes)) n.reads;
    }

pub turned_nodes : (m : Mach) (rows : List (List Bool)) {rest : List Instr} {xs ys : List place.Place} → AreStaleNodes m rows rest xs → AreTurned xs ys →
    AreFreshNodes m rows rest ys
turned_nodes m rows (at_end n) (turned_end b) = at_end b
turned_nodes m rows (at_end n) (turned_before t ts) = elim ts [ ]
turned_nodes m rows (before n ns) (turned_end b) = elim ns [ ]
turned_nodes m rows (before {i = i} {next = next} {node = x} n ns) (turned_before {y = y} t ts) =
    before (turned_node m rows i next x y n t) (turned_nodes m rows ns ts)

pub stale_some : (m : Mach) (rows : List (List Bool)) {rest : List Instr} {xs : List place.Place} → AreStaleNodes m rows rest xs → 0 < length xs
stale_some m rows (at_end n) = omega arith
stale_some m rows (before n ns) = omega arith
