-- The places of a graph that has the edges of a function, and where they lead.
use Rattle.std.proofs.Common.{◌≡◌, ℕ, suc, ◌-◌, ◌<◌, ◌≤◌, ⊎_elim, List, [], ◌∷◌, map, length, drop, refl, sym, ◌∙◌, subst, arith}
use Rattle.std.proofs.lemmas.Bool.{cases_lt}
use Rattle.std.specs.List.{Contains}
use Rattle.std.specs.Prelude.{slice_index_or}
use Rattle.bs_words.specs.Contents.{contents}
use Rattle.bs_words.proofs.Lists.{none_in}
use Rattle.dataflow.specs.Flow.{graph}
use Rattle.dataflow.specs.declared.flow.Flow as flow
use Rattle.dataflow.specs.declared.flow.Place as place
use Rattle.mach_ir.specs.Walks.{targets, goes, WalkStep, Raises}
use Rattle.mach_ir.specs.Meaning.{code_at}
use Rattle.mach_ir.specs.declared.mach.Instr.{Instr}
use Rattle.mach_ir.specs.declared.mach.Mach.{Mach}
use Rattle.mach_laws.specs.Expand.{Ending}
use Rattle.mach_laws.specs.Graph.{code_index, next_places, raise_places}
use Rattle.mach_laws.proofs.Places.{ending_short}
use Rattle.mach_laws.proofs.Walking.{ending_at, place_is, place_at, target_of, place_back, ending_place}
use Rattle.sink.specs.Graphs.{AreCodeNodes}
use Rattle.sink.proofs.Nodes.{At, at_place, past}
use Rattle.liveness.proofs.Steps.{steps_to, Raised, raised_of, raises_to}

-- a place is that of an instruction, or the last, or there is none
pub data Where (end o : ℕ) : Type 0 where
  inner : o < end → Where end o
  final : o ≡ end → Where end o
  beyond : end < o → Where end o

pub where_is : (end o : ℕ) → Where end o
where_is end o =
    ⊎_elim (λ lt. inner lt)
    (λ ge. ⊎_elim (λ lt. beyond lt) (λ le. final (omega (arith, le, ge))) (cases_lt end o)) (cases_lt o end)

module _ (m : Mach) (E : place.Place → Type 0) (N : Instr → List Instr → place.Place → Type 0)
    (next_of : (i : Instr) (next : List Instr) (x : place.Place) → N i next x → contents x.next ≡ next_places m (i ∷ next))
    (aside_of : (i : Instr) (next : List Instr) (x : place.Place) → N i next x → contents x.aside ≡ raise_places m (i ∷ next))
    (f : flow.Flow) (nodes : AreCodeNodes E N m.code (contents f.places)) where
  pub at : (p : ℕ) → p < length m.code → At E N m.code (contents f.places) p
  at p lt = at_place E N nodes p lt

  pub none_past : (part : place.Place → List ℕ) (o q : ℕ) → length m.code < o →
      Contains (slice_index_or (map part (contents f.places)) o []) q → ⊥
  none_past part o q lt c = none_in q (subst (λ xs. Contains xs q) (past E N nodes o lt part) c)

  pub lead : (o q : ℕ) (a : At E N m.code (contents f.places) o) → Contains ((graph f).next o) q → WalkStep m a.instr a.next (drop q m.code)
  lead o q a c =
      let i = a.instr in
      let next = a.next in
      let t = target_of m next (targets i.op) q
      (subst (λ xs. Contains xs q) (a.part (λ x. contents x.next) ∙ next_of i next a.node a.is_node) c) in
      let to : drop q m.code ≡ code_at m.code next t.0 = place_at m (ending_at t.0 (ending_place m o a.is)) t.2 in
      subst (WalkStep m i next) (sym to) (goes t.0 t.1)

  pub rise : (o q : ℕ) (a : At E N m.code (contents f.places) o) → Contains ((graph f).aside o) q → Raises m a.instr a.next (drop q m.code)
  rise o q a c =
      let i = a.instr in
      let next = a.next in
      let r = raised_of m o q (i ∷ next) a.is
      (subst (λ xs. Contains xs q) (a.part (λ x. contents x.aside) ∙ aside_of i next a.node a.is_node) c) in
      by i next r (sym a.is ∙ r.is)
    where
      by : (i : Instr) (next : List Instr) (r : Raised m o q) → i ∷ next ≡ r.instr ∷ r.next → Raises m i next (drop q m.code)
      by i next r same =
          let e : r.instr ≡ i = cc in
          let h : r.next ≡ next = cc in
          subst (Raises m i next) (sym r.lands_at)
          (subst (λ (i : Instr). Raises m i next r.to) e (subst (λ (next : List Instr). Raises m r.instr next r.to) h r.raise))

  -- ---- and back

  -- the place of an instruction
  pub record Of (i : Instr) (next : List Instr) : Type 0 where
    pub number : ℕ
    pub number_is : number ≡ code_index m (i ∷ next)
    pub small : number < length m.code
    pub node : place.Place
    pub is_node : N i next node
    pub part : (g : place.Place → List ℕ) → slice_index_or (map g (contents f.places)) number [] ≡ g node
    pub is : drop number m.code ≡ i ∷ next

  pub of : {i : Instr} {next : List Instr} → Ending (i ∷ next) m.code → Of i next
  of {i} {next} e = by (at o small) (sym (at o small).is ∙ place_is m e)
    where
      o : ℕ
      o = code_index m (i ∷ next)

      inside : (a b : ℕ) → suc b ≤ a → a - suc b < a
      inside a b le = omega (arith, le)

      small : o < length m.code
      small = inside (length m.code) (length next) (ending_short e)

      by : (a : At E N m.code (contents f.places) o) → a.instr ∷ a.next ≡ i ∷ next → Of i next
      by a same =
          let e : a.instr ≡ i = cc in
          let h : a.next ≡ next = cc in
          record {
            number = o;
            number_is = refl;
            small = small;
            node = a.node;
            is_node = subst (λ (i : Instr). N i next a.node) e (subst (λ (next : List Instr). N a.instr next a.node) h a.is_node);
            part = a.part;
            is = a.is ∙ same;
          }

  pub goes_to : {i : Instr} {next to : List Instr} (p : ℕ) (x : Of i next) → WalkStep m i next to → p ≤ length m.code → drop p m.code ≡ to →
      Contains ((graph f).next x.number) p
  goes_to {i} {next} {to} p x l le h =
      subst (λ xs. Contains xs p) (sym (x.part (λ x. contents x.next) ∙ next_of i next x.node x.is_node))
      (subst (Contains (next_places m (i ∷ next))) (place_back m p to le h) (steps_to m l))

  pub rises_to : {i : Instr} {next to : List Instr} (p : ℕ) (x : Of i next) → Raises m i next to → p ≤ length m.code → drop p m.code ≡ to →
      Contains ((graph f).aside x.number) p
  rises_to {i} {next} {to} p x r le h =
      subst (λ xs. Contains xs p) (sym (x.part (λ x. contents x.aside) ∙ aside_of i next x.node x.is_node))
      (subst (Contains (raise_places m (i ∷ next))) (place_back m p to le h) (raises_to m r))
