-- What is made of each function of an accepted file is known whole, and it can be laid out.
use Rattle.std.proofs.Common.{◌≡◌, ℕ, zero, suc, List, [], ◌∷◌, Some, length, ap, refl, subst}
use Rattle.std.specs.Prelude.{Contains, slice_get, ◌<◌, ◌^◌}
use Rattle.std.specs.List.{AllByRecursion, AllZip}
use Rattle.std.proofs.lemmas.Option.{none-some, same_Some}
use Rattle.compiled_files.proofs.Known.{file_can, function_can}
use Rattle.code_bounds.proofs.Known.{function_accepted, chained, placed_for}
use Rattle.choices.specs.declared.choices.Choices.{Choices}
use Rattle.cmm_front.specs.FileOf.{IsFileOf}
use Rattle.cmm_tree.specs.Tree.{FunctionTree, FileTree, functions}
use Rattle.cmm_types.proofs.Containing.{contains_head, contains_tail}
use Rattle.code_bounds.proofs.Bounded.{frame_fits}
use Rattle.code_bounds.specs.Kept.{KeepsTo}
use Rattle.code_bounds.proofs.Few.{few}
use Rattle.code_bounds.proofs.Keeping.{each_keeps}
use Rattle.compiled_files.specs.Stages.{AreChained, HasChain}
use Rattle.made_once.specs.Known.{IsFunctionExact, IsChained, IsFunctionMade}
use Rattle.frame_tables_rules.specs.Names.{locations_named_by}
use Rattle.frame_tables_rules.proofs.Names.{exact_names}
use Rattle.laid_parts.proofs.Whole.{laid_out}
use Rattle.rv_layout_rules.specs.Conditions.{CanBeLaid, IsFunctionLaid}
use Rattle.rv_pieces.specs.declared.piece.Pieces.{Pieces}

module _ (choices : Choices) (text : List ℕ) (file : FileTree) (is : IsFileOf text file) where
  function_chained : (tree : FunctionTree) → Contains (functions file) tree → (p : Pieces) → (made : IsFunctionMade choices tree p) →
      IsChained tree made.lin made.descriptors p
  function_chained tree among p made =
      let accepted = function_accepted text file is tree among in
      chained accepted made.made (frame_fits accepted (placed_for accepted made.made.is_prepared made.made.allocated) made.made.linear choices.order made.made.ordered)

  function_laid : (tree : FunctionTree) → Contains (functions file) tree → (p : Pieces) → IsFunctionMade choices tree p → IsFunctionLaid file p
  function_laid tree among p made =
      let whole = function_chained tree among p made in
      function_can text file is tree among made.lin made.descriptors p whole (locations_named_by made.descriptors made.lin) (exact_names whole.lines.regular whole.exact)

  function_exact : (tree : FunctionTree) → Contains (functions file) tree → (p : Pieces) → IsFunctionMade choices tree p → IsFunctionExact choices tree p
  function_exact tree among p made =
      let whole = function_chained tree among p made in
      record {
        lin = made.lin;
        descriptors = made.descriptors;
        made = made.made;
        chained = whole;
        laid = laid_out made.lin whole.lines.regular.well whole.lines.regular.seated whole.lines.within made.descriptors p whole.emitted whole.count;
      }

  module _ (P : Pieces → Type 0) (each : (tree : FunctionTree) → Contains (functions file) tree → (p : Pieces) → IsFunctionMade choices tree p → P p) where
    by_recursion : (fs : List FunctionTree) (ps : List Pieces) → ((tree : FunctionTree) → Contains fs tree → Contains (functions file) tree) →
        AllZip (IsFunctionMade choices) fs ps → AllByRecursion P ps
    by_recursion [] [] among made = tt
    by_recursion [] (p ∷ ps) among made = absurd made
    by_recursion (f ∷ fs) [] among made = absurd made
    by_recursion (f ∷ fs) (p ∷ ps) among made = (
      each f (among f (contains_head f fs)) p made.0,
      by_recursion fs ps (λ tree c. among tree (contains_tail f fs tree c)) made.1,
    )

  exact_ones : (fs : List FunctionTree) (ps : List Pieces) → ((tree : FunctionTree) → Contains fs tree → Contains (functions file) tree) →
      AllZip (IsFunctionMade choices) fs ps → AllZip (IsFunctionExact choices) fs ps
  exact_ones [] [] among made = tt
  exact_ones [] (p ∷ ps) among made = absurd made
  exact_ones (f ∷ fs) [] among made = absurd made
  exact_ones (f ∷ fs) (p ∷ ps) among made = (
    function_exact f (among f (contains_head f fs)) p made.0,
    exact_ones fs ps (λ tree c. among tree (contains_tail f fs tree c)) made.1,
  )

  -- As many, in the same places.
  as_many : (fs : List FunctionTree) (ps : List Pieces) → AllZip (IsFunctionMade choices) fs ps → length ps ≡ length fs
  as_many [] [] made = refl
  as_many [] (p ∷ ps) made = absurd made
  as_many (f ∷ fs) [] made = absurd made
  as_many (f ∷ fs) (p ∷ ps) made = ap suc (as_many fs ps made.1)

  chains : (fs : List FunctionTree) (ps : List Pieces) → ((tree : FunctionTree) → Contains fs tree → Contains (functions file) tree) →
      AllZip (IsFunctionMade choices) fs ps → (k : ℕ) (tree : FunctionTree) → slice_get fs k ≡ Some tree → HasChain tree ps k
  chains [] ps among made k tree at = absurd (none-some tree at)
  chains (f ∷ fs) [] among made k tree at = absurd made
  chains (f ∷ fs) (p ∷ ps) among made zero tree at =
      let same : f ≡ tree = same_Some f tree at in
      subst (λ (g : FunctionTree). HasChain g (p ∷ ps) 0) same (record {
        lin = made.0.lin;
        descrs = made.0.descriptors;
        pieces = p;
        there = refl;
        chained = function_chained f (among f (contains_head f fs)) p made.0;
      })
  chains (f ∷ fs) (p ∷ ps) among made (suc k) tree at =
      let has = chains fs ps (λ g c. among g (contains_tail f fs g c)) made.1 k tree at in
      record { lin = has.lin; descrs = has.descrs; pieces = has.pieces; there = has.there; chained = has.chained }

  module _ (ps : List Pieces) (made : AllZip (IsFunctionMade choices) (functions file) ps) where
    pub are_chained : AreChained file ps
    are_chained = chains (functions file) ps (λ tree c. c) made

    pub keep : AllZip KeepsTo (functions file) ps
    keep = each_keeps choices text file is ps made

    pub can_be_laid : CanBeLaid file ps
    can_be_laid = record {
      of_file = file_can text file is;
      each_one = as_many (functions file) ps made;
      each = by_recursion (IsFunctionLaid file) function_laid (functions file) ps (λ tree c. c) made;
      few = few text file ps is keep;
    }

    pub are_exact : AllZip (IsFunctionExact choices) (functions file) ps
    are_exact = exact_ones (functions file) ps (λ tree c. c) made

-- A file's functions have numbers of 32 bits.
pub few_functions : (text : List ℕ) (file : FileTree) → IsFileOf text file → length (functions file) < 2 ^ 32
few_functions text file is = (file_can text file is).few_functions
