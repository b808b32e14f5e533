-- The nodes of the two graphs, made from the end of the text.
use Rattle.std.proofs.Common.{◌≡◌, ◌↔◌, ℕ, zero, suc, ◌-◌, ◌<◌, ◌≤◌, Bool, List, [], ◌∷◌, ◌++◌, map, length, drop, refl, sym, ap, ◌∙◌, subst, arith}
use Rattle.std.proofs.Math.Seq.{drop-length}
use Rattle.std.specs.List.{Contains}
use Rattle.std.specs.Prelude.{slice_index_or}
use Rattle.bs_words.specs.Contents.{contents}
use Rattle.bs_words.proofs.Lists.{none_in}
use Rattle.dataflow.specs.Flow.{IsBare}
use Rattle.dataflow.specs.declared.flow.Flow as flow
use Rattle.dataflow.specs.declared.flow.Place as place
use Rattle.mach_ir.specs.Meaning.{Everything, destroyed_by, registers_written}
use Rattle.mach_ir.specs.declared.mach.Instr.{Instr}
use Rattle.mach_ir.specs.declared.mach.Mach.{Mach}
use Rattle.mach_laws.specs.Graph.{code_index, numbers_of_registers, next_places, raise_places, numbers_read, numbers_written, IsFlowOf}
use Rattle.liveness.specs.Nodes.{IsLivenessNode}
use Rattle.liveness.proofs.Lists.{place_here, place_next}
use Rattle.spill.specs.Graphs.{IsLivingOver, IsLostPlace, IsLostNode, AreLostNodes, at_end, before, reloaded_among, wanted_uses, IsWantedPlace}

module _ (m : Mach) (old : flow.Flow) (is : IsFlowOf m old) where
  item_part : (part : place.Place → List ℕ) (xs : List place.Place) (p : ℕ) (x : place.Place) → p < length xs → x ≡ slice_index_or xs p x →
      part x ≡ slice_index_or (map part xs) p []
  item_part part [] p x lt e = absurd (omega (arith, lt))
  item_part part (y ∷ xs) zero x lt e = ap part e
  item_part part (y ∷ xs) (suc p) x lt e = item_part part xs p x (omega (arith, lt)) e

  before_end : (left : ℕ) → 0 < left → left ≤ length m.code → left - 1 < length (contents old.places)
  before_end left some within = let c = is.places in omega (arith, some, within, c)

  module _ (left : ℕ) (i : Instr) (x : place.Place) (some : 0 < left) (within : left ≤ length m.code)
      (at : drop (left - 1) m.code ≡ i ∷ drop left m.code) (item : x ≡ slice_index_or (contents old.places) (left - 1) x) where
    part_is : (part : place.Place → List ℕ) → part x ≡ slice_index_or (map part (contents old.places)) (left - 1) []
    part_is part = item_part part (contents old.places) (left - 1) x (before_end left some within) item

    next_is : contents x.next ≡ next_places m (i ∷ drop left m.code)
    next_is = part_is (λ x. contents x.next) ∙ is.next (left - 1) ∙ ap (next_places m) at

    aside_is : contents x.aside ≡ raise_places m (i ∷ drop left m.code)
    aside_is = part_is (λ x. contents x.aside) ∙ is.aside (left - 1) ∙ ap (raise_places m) at

    reads_is : contents x.reads ≡ numbers_read (i ∷ drop left m.code)
    reads_is = part_is (λ x. contents x.reads) ∙ is.reads (left - 1) ∙ ap numbers_read at

    writes_is : contents x.writes ≡ numbers_written m (i ∷ drop left m.code)
    writes_is = part_is (λ x. contents x.writes) ∙ is.writes (left - 1) ∙ ap (numbers_written m) at

    after_is : left ≡ code_index m (drop left m.code)
    after_is =
        let a = place_next m (left - 1) i (drop left m.code) at in
        let b : suc (left - 1) ≡ left = omega (arith, some) in
        sym b ∙ sym a

    abbrev Made : List (List Bool) → List ℕ → ℕ → List ℕ → Type 0
    Made rows found after ws =
        (n : ℕ) → Contains found n ↔ ((destroyed_by i.op ≡ Everything) × IsLivingOver rows after old.bound ws n)

    pub lost_node_is : (rows : List (List Bool)) (y : place.Place) → IsLostPlace rows left old.bound i.op x y →
        IsLostNode m rows old.bound (i ∷ drop left m.code) y
    lost_node_is rows y h =
        record {
          next = h.next ∙ next_is;
          aside = h.aside;
          reads = subst (λ k. Made rows (contents y.reads) k (numbers_of_registers (registers_written m i))) after_is
              (subst (Made rows (contents y.reads) left) writes_is h.reads);
          writes = h.writes ∙ ap (λ ns. ns ++ contents x.writes) reads_is ∙ ap (λ ns. numbers_of_registers i.args ++ ns) writes_is;
        }

    pub wanted_node_is : (lost : List (List Bool)) (y : place.Place) → IsWantedPlace lost (left - 1) i.args x y →
        IsLivenessNode m (wanted_uses m lost) (i ∷ drop left m.code) y
    wanted_node_is lost y h =
        record {
          next = h.next ∙ next_is;
          aside = h.aside ∙ aside_is;
          reads = h.reads ∙ ap (λ p. reloaded_among lost p i.args) (sym (place_here m (left - 1) i (drop left m.code) at));
          writes = h.writes ∙ writes_is;
        }

pub bare_wanted : (m : Mach) (lost : List (List Bool)) (last : place.Place) → IsBare last → IsLivenessNode m (wanted_uses m lost) [] last
bare_wanted m lost last h = record { next = h.next; aside = h.aside; reads = h.reads; writes = h.writes }

module _ (m : Mach) (rows : List (List Bool)) (bound : ℕ) where
  none_left : (k : ℕ) → k ≡ length m.code → drop k m.code ≡ []
  none_left k e = ap (λ k. drop k m.code) e ∙ drop-length m.code

  bare_lost : (last : place.Place) → IsBare last → IsLostNode m rows bound [] last
  bare_lost last h =
      record {
        next = h.next;
        aside = h.aside;
        reads = λ n. (λ c. none_in n (subst (λ xs. Contains xs n) h.reads c), λ z. absurd z);
        writes = h.writes;
      }

  pub lost_begun : (k : ℕ) (last : place.Place) (old nodes : List place.Place) → k ≡ length m.code → IsBare last →
      old ≡ [] → nodes ≡ last ∷ old → AreLostNodes m rows bound (drop k m.code) nodes
  lost_begun k last old nodes e node none made =
      subst (λ rest. AreLostNodes m rows bound rest nodes) (sym (none_left k e))
      (subst (AreLostNodes m rows bound []) (sym (made ∙ ap (λ xs. last ∷ xs) none)) (at_end (bare_lost last node)))

  pub lost_more : (left : ℕ) (i : Instr) (node : place.Place) (old new : List place.Place) → drop (left - 1) m.code ≡ i ∷ drop left m.code →
      AreLostNodes m rows bound (drop left m.code) old → IsLostNode m rows bound (i ∷ drop left m.code) node → new ≡ node ∷ old →
      AreLostNodes m rows bound (drop (left - 1) m.code) new
  lost_more left i node old new at nodes one made =
      subst (λ rest. AreLostNodes m rows bound rest new) (sym at)
      (subst (AreLostNodes m rows bound (i ∷ drop left m.code)) (sym made) (before one nodes))

  pub lost_done : (left : ℕ) (nodes all : List place.Place) → left ≤ 0 → AreLostNodes m rows bound (drop left m.code) nodes → all ≡ nodes →
      AreLostNodes m rows bound m.code all
  lost_done left nodes all none are same =
      let zero_left : left ≡ 0 = omega (arith, none) in
      subst (λ rest. AreLostNodes m rows bound rest all) (ap (λ k. drop k m.code) zero_left ∙ whole m.code)
      (subst (AreLostNodes m rows bound (drop left m.code)) (sym same) are)
    where
      whole : (xs : List Instr) → drop 0 xs ≡ xs
      whole [] = refl
      whole (x ∷ xs) = refl
