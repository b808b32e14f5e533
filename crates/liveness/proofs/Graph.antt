-- The nodes of all places are the flow graph.
use Rattle.std.proofs.Common.{◌≡◌, ℕ, zero, suc, ◌-◌, ◌<◌, Bool, true, false, ⊎_elim, List, [], ◌∷◌, length, map, drop, refl, sym, ap, subst, arith}
use Rattle.std.specs.List.{All}
use Rattle.std.specs.Prelude.{slice_index_or}
use Rattle.std.proofs.lemmas.List.Elements.{All-nil, All-cons, Contains-append_cases}
use Rattle.bs_words.specs.Contents.{contents}
use Rattle.dataflow.specs.Flow.{IsPlace, IsFlowFormed}
use Rattle.dataflow.specs.declared.flow.Flow as flow
use Rattle.dataflow.specs.declared.flow.Place as place
use Rattle.mach_ir.specs.Acts.{Target}
use Rattle.mach_ir.specs.Meaning.{code_at, from_handler, killed, registers_written, tries_at}
use Rattle.mach_ir.specs.Walks.{IsRegister, is_colour, is_in_code, InCode, in_args, in_results, further, targets, may_raise}
use Rattle.mach_ir.specs.declared.reg.Reg.{Reg}
use Rattle.mach_ir.specs.declared.mach.Instr.{Instr}
use Rattle.mach_ir.specs.declared.mach.Mach.{Mach}
use Rattle.mach_laws.specs.Graph.{code_index, handler_places, next_places, raise_places, numbers_read, numbers_written, IsFlowOf}
use Rattle.liveness.specs.Nodes.{Uses, register_uses, IsLivenessNode, AreLivenessNodes, at_end, before}
use Rattle.liveness.proofs.Bounds.{numbers_below, killed_is_colour}

module _ (m : Mach) (uses : Uses) where
  pub count_is : {rest : List Instr} {nodes : List place.Place} → AreLivenessNodes m uses rest nodes → length nodes ≡ suc (length rest)
  count_is (at_end n) = refl
  count_is (before n ns) = ap suc (count_is ns)

  -- what each node has, where each is right and the last one has none
  pub part_is : (part : place.Place → List ℕ) (is : List Instr → List ℕ) → is [] ≡ [] →
      ((rest : List Instr) (node : place.Place) → IsLivenessNode m uses rest node → part node ≡ is rest) →
      {rest : List Instr} {nodes : List place.Place} → AreLivenessNodes m uses rest nodes → (p : ℕ) →
      slice_index_or (map part nodes) p [] ≡ is (drop p rest)
  part_is part is none each (at_end {node = node} n) zero = each [] node n
  part_is part is none each (at_end n) (suc p) = sym none
  part_is part is none each (before {i = i} {next = next} {node = node} n ns) zero = each (i ∷ next) node n
  part_is part is none each (before n ns) (suc p) = part_is part is none each ns p

  -- ---- within the graph

  module _ (count bound : ℕ) (more : length m.code < count) where
    abbrev IsWithin : List ℕ → Type 0
    IsWithin qs = All (λ q. q < count) qs

    abbrev AreBelow : List ℕ → Type 0
    AreBelow ns = All (λ n. n < bound) ns

    place_within : (rest : List Instr) → code_index m rest < count
    place_within rest = by (length m.code) (length rest) more
      where
        by : (a b : ℕ) → a < count → a - b < count
        by a b lt = omega (arith, lt)

    targets_within : (next : List Instr) (ts : List Target) → IsWithin (map (λ t. code_index m (code_at m.code next t)) ts)
    targets_within next [] = All-nil (λ q. q < count)
    targets_within next (t ∷ ts) =
        All-cons (λ q. q < count) (code_index m (code_at m.code next t)) (map (λ t. code_index m (code_at m.code next t)) ts)
        (place_within (code_at m.code next t)) (targets_within next ts)

    next_within : (rest : List Instr) → IsWithin (next_places m rest)
    next_within [] = All-nil (λ q. q < count)
    next_within (i ∷ next) = targets_within next (targets i.op)

    handlers_within : (b : Bool) (tries : List ℕ) → IsWithin (handler_places m b tries)
    handlers_within false tries = All-nil (λ q. q < count)
    handlers_within true [] = All-nil (λ q. q < count)
    handlers_within true (l ∷ tries) =
        All-cons (λ q. q < count) (code_index m (from_handler l m.code)) [] (place_within (from_handler l m.code))
        (All-nil (λ q. q < count))

    aside_within : (rest : List Instr) → IsWithin (raise_places m rest)
    aside_within [] = All-nil (λ q. q < count)
    aside_within (i ∷ next) = handlers_within (may_raise i.op) (tries_at (i ∷ next))

    -- what is read and written in this code is below the bound
    abbrev pub AreSmall : List Instr → Type 0
    AreSmall code = (p : ℕ) → AreBelow (uses.reads (drop p code)) × AreBelow (uses.writes (drop p code))

    node_within : (rest : List Instr) {node : place.Place} → IsLivenessNode m uses rest node → AreBelow (uses.reads rest) →
        AreBelow (uses.writes rest) → IsPlace count bound node
    node_within rest n reads writes =
        record {
          next = subst IsWithin (sym n.next) (next_within rest);
          aside = subst IsWithin (sym n.aside) (aside_within rest);
          reads = subst AreBelow (sym n.reads) reads;
          writes = subst AreBelow (sym n.writes) writes;
        }

    pub nodes_within : {rest : List Instr} {nodes : List place.Place} → AreLivenessNodes m uses rest nodes → AreSmall rest →
        All (IsPlace count bound) nodes
    nodes_within (at_end {node = node} n) small =
        All-cons (IsPlace count bound) node [] (node_within [] n (small 0).0 (small 0).1) (All-nil (IsPlace count bound))
    nodes_within (before {i = i} {next = next} {node = node} {nodes = nodes} n ns) small =
        All-cons (IsPlace count bound) node nodes (node_within (i ∷ next) n (small 0).0 (small 0).1) (nodes_within ns (λ p. small (suc p)))

-- ---- the registers that are read and written

module _ (m : Mach) (bound : ℕ) (above : (r : Reg) → IsRegister m r → r.number < bound) where
  reads_below : (rest : List Instr) → ((r : Reg) → InCode r rest → IsRegister m r) → All (λ n. n < bound) (numbers_read rest)
  reads_below [] in_code = All-nil (λ n. n < bound)
  reads_below (i ∷ next) in_code = numbers_below bound i.args (λ r c. above r (in_code r (in_args c)))

  writes_below : (rest : List Instr) → ((r : Reg) → InCode r rest → IsRegister m r) →
      All (λ n. n < bound) (numbers_written m rest)
  writes_below [] in_code = All-nil (λ n. n < bound)
  writes_below (i ∷ next) in_code =
      numbers_below bound (registers_written m i)
      (λ r c.
      ⊎_elim (λ h. above r (in_code r (in_results h))) (λ h. above r (is_colour (killed_is_colour m i r h)))
      (Contains-append_cases i.results (killed m i) r c))

  drop_in : (p : ℕ) (code : List Instr) (r : Reg) → InCode r (drop p code) → InCode r code
  drop_in zero [] r c = c
  drop_in zero (i ∷ is) r c = c
  drop_in (suc p) [] r c = c
  drop_in (suc p) (i ∷ is) r c = further (drop_in p is r c)

  registers_below : (p : ℕ) →
      All (λ n. n < bound) (numbers_read (drop p m.code)) × All (λ n. n < bound) (numbers_written m (drop p m.code))
  registers_below p = (
    reads_below (drop p m.code) (λ r c. is_in_code (drop_in p m.code r c)),
    writes_below (drop p m.code) (λ r c. is_in_code (drop_in p m.code r c)),
  )

-- ---- the flow graph of a function

module _ (m : Mach) (f : flow.Flow) (nodes : AreLivenessNodes m (register_uses m) m.code (contents f.places)) where
  pub are_flow : IsFlowOf m f
  are_flow =
      let uses : Uses = register_uses m in
      record {
        places = count_is m uses nodes;
        next = λ p. part_is m uses (λ x. contents x.next) (next_places m) refl (λ rest node n. n.next) nodes p;
        aside = λ p. part_is m uses (λ x. contents x.aside) (raise_places m) refl (λ rest node n. n.aside) nodes p;
        reads = λ p. part_is m uses (λ x. contents x.reads) numbers_read refl (λ rest node n. n.reads) nodes p;
        writes = λ p. part_is m uses (λ x. contents x.writes) (numbers_written m) refl (λ rest node n. n.writes) nodes p;
      }

  pub is_formed : ((r : Reg) → IsRegister m r → r.number < f.bound) → IsFlowFormed f
  is_formed above =
      let count : length (contents f.places) ≡ suc (length m.code) = count_is m (register_uses m) nodes in
      nodes_within m (register_uses m) (length (contents f.places)) f.bound (omega (arith, count)) nodes
      (registers_below m f.bound above)
