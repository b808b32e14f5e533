-- The pieces that are made of the functions of a text keep to it.
use Rattle.std.proofs.Common.{ℕ, ◌*◌, ◌<◌, ◌≤◌, List, [], ◌∷◌, length, Option, ap, ◌∙◌, arith}
use Rattle.std.proofs.lemmas.Bool.{eqb-true}
use Rattle.std.proofs.lemmas.Bool.Decides.{Decides-eqb}
use Rattle.std.proofs.lemmas.Map.Made.{IsDistinct-from_AllPairs}
use Rattle.std.proofs.lemmas.Map.Steps.{length-le_from_distinct_below}
use Rattle.std.proofs.lemmas.Map.Views.{Contains-from_any}
use Rattle.std.specs.Prelude.{Contains}
use Rattle.std.specs.List.{AllZip}
use Rattle.std.proofs.lemmas.List.Elements.{All-contains}
use Rattle.choices.specs.declared.choices.Choices.{Choices}
use Rattle.cmm_front.specs.FileOf.{IsFileOf}
use Rattle.cmm_tree.specs.Symbols.{DefinedSymbol}
use Rattle.cmm_tree.specs.Tree.{FunctionTree, FileTree, functions}
use Rattle.cmm_types.proofs.Containing.{contains_head, contains_tail}
use Rattle.correctness.specs.Measures.{tries}
use Rattle.rv_emit_rules.proofs.Descriptors.{descriptors_are_carried}
use Rattle.rv_emit_rules.proofs.Names.{places_are_labels}
use Rattle.lin_ir.specs.declared.descr.Descr.{Descr}
use Rattle.lin_ir.specs.Formed as lines
use Rattle.lin_ir.specs.declared.lin.Lin.{Lin}
use Rattle.mach_ir.specs.Formed.{labels_in, WellFormed}
use Rattle.mach_ir.specs.declared.mach.Mach.{Mach}
use Rattle.chained_functions.proofs.Known.{placed_for}
use Rattle.chained_functions.proofs.Ordered.{labels_in_order}
use Rattle.rv_pieces.specs.Named.{marks_in, places_in}
use Rattle.rv_pieces.specs.declared.piece.Pieces.{Pieces}
use Rattle.selection_accepted.specs.Known.{IsAccepted}
use Rattle.selection_accepted.proofs.Promised.{function_accepted}
use Rattle.selection_accepted.proofs.Selecting.{definitions}
use Rattle.text_sizes.proofs.Nesting.{text_nests}
use Rattle.chained_functions.specs.Known.{IsFunctionMade, IsMadeOf}
use Rattle.code_bounds.specs.Kept.{KeepsTo}
use Rattle.code_bounds.proofs.Bounded.{bounded}

-- Labels occur once, and below a number: there are no more of them.
few_labels : (p : Mach) → WellFormed p → length (labels_in p.code) ≤ p.labels
few_labels p formed =
    length-le_from_distinct_below (labels_in p.code) p.labels
    (IsDistinct-from_AllPairs Decides-eqb (labels_in p.code) formed.labels_once)
    (λ l seen. All-contains (λ l. l < p.labels) (labels_in p.code) l formed.labels_below (Contains-from_any eqb-true l (labels_in p.code) seen))

module _ {choices : Choices} (defined : List ℕ → Option DefinedSymbol) (tree : FunctionTree) (m : Lin) (ds : List Descr) (pieces : Pieces) (accepted : IsAccepted defined tree)
    (made : IsMadeOf choices tree m ds pieces) where
  few_places : length (places_in pieces.code) ≤ 12023 * tree.tokens
  few_places =
      let is = placed_for accepted made.is_prepared made.allocated in
      let below = is.labels in
      let emitted = ap (λ (p : Pieces). length (places_in p.code)) made.emitted.is in
      let labels = ap length (places_are_labels m made.emitted.traps ds) in
      let ordered = ap (λ (l : Lin). length (lines.labels_in l.code)) made.ordered ∙ ap length (labels_in_order choices.order made.lines) in
      let more = made.linear.labels_few in
      let instrs = is.instrs in
      let few = few_labels made.mach is.formed in
      omega (arith, below, emitted, labels, ordered, more, instrs, few)

  -- They keep to it where at most 250 tries nest.
  pub keeps_to : tries tree ≤ 250 → KeepsTo tree pieces
  keeps_to shallow = record {
    descrs = ds;
    carried = ap (λ (p : Pieces). marks_in p.code) made.emitted.is ∙ descriptors_are_carried m made.emitted.traps ds made.count;
    bounded = bounded accepted (placed_for accepted made.is_prepared made.allocated) made.linear choices.order made.ordered ds pieces made shallow;
    labels = let few = few_places in omega (arith, few);
  }

-- Those of each function of an accepted file do.
pub text_keeps : {choices : Choices} (text : List ℕ) (file : FileTree) → IsFileOf text file → (tree : FunctionTree) → Contains (functions file) tree →
    (m : Lin) (ds : List Descr) (pieces : Pieces) → IsMadeOf choices tree m ds pieces → KeepsTo tree pieces
text_keeps text file is tree c m ds pieces made =
    keeps_to (definitions file) tree m ds pieces (function_accepted text file is tree c) made (text_nests text file tree is c)

-- And so do all of them.
pub each_keeps : (choices : Choices) (text : List ℕ) (file : FileTree) → IsFileOf text file → (ps : List Pieces) →
    AllZip (IsFunctionMade choices) (functions file) ps →
    AllZip KeepsTo (functions file) ps
each_keeps choices text file is ps made = go (functions file) ps (λ tree c. c) made
  where
    go : (fs : List FunctionTree) (ps : List Pieces) → ((tree : FunctionTree) → Contains fs tree → Contains (functions file) tree) → AllZip (IsFunctionMade choices) fs ps →
        AllZip KeepsTo fs ps
    go [] [] among made = tt
    go [] (p ∷ ps) among made = absurd made
    go (f ∷ fs) [] among made = absurd made
    go (f ∷ fs) (p ∷ ps) among made = (
      text_keeps text file is f (among f (contains_head f fs)) made.0.lin made.0.descriptors p made.0.made,
      go fs ps (λ tree c. among tree (contains_tail f fs tree c)) made.1,
    )
