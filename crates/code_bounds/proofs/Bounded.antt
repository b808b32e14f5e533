-- What is made of a function is as small as its text asks.
use Rattle.std.proofs.Common.{◌≡◌, ℕ, ◌+◌, ◌-◌, ◌*◌, ◌≤◌, List, length, Option, refl, sym, ap, ◌∙◌, subst, arith}
use Rattle.std.specs.Prelude.{Contains}
use Rattle.std.proofs.lemmas.List.Elements.{All-weaker}
use Rattle.choices.specs.declared.choices.Choices.{Choices}
use Rattle.choices.specs.declared.choices.Order.{Order}
use Rattle.cmm_front.specs.FileOf.{IsFileOf}
use Rattle.cmm_tree.specs.Measures.{all_tries}
use Rattle.cmm_tree.specs.Symbols.{DefinedSymbol}
use Rattle.cmm_tree.specs.Tree.{FunctionTree, FileTree, functions}
use Rattle.correctness.specs.Measures.{tries}
use Rattle.lin_ir.specs.Descriptors.{frame_bytes, frame_point_count}
use Rattle.lin_ir.specs.declared.descr.Descr.{Descr}
use Rattle.lin_ir.specs.declared.lin.Lin.{Lin}
use Rattle.chained_functions.specs.Known.{IsLinearOf, NamesHomes, IsMadeOf, IsBoundedBy, IsPlacedFor, in_order}
use Rattle.selection_accepted.specs.Known.{IsAccepted, Selects}
use Rattle.mach_ir.specs.declared.mach.Mach.{Mach}
use Rattle.rv_pieces.specs.declared.piece.Pieces.{Pieces}
use Rattle.selection_rules.specs.Select.{selected}
use Rattle.selection_accepted.proofs.Known.{promised, few_tokens}
use Rattle.selection_accepted.proofs.Promised.{function_accepted}
use Rattle.selection_accepted.proofs.Selecting.{definitions}
use Rattle.selection_sizes.proofs.Selected.{selected_words, selected_points}
use Rattle.text_sizes.proofs.Nesting.{text_nests}
use Rattle.lin_tidy_rules.proofs.Lowered.{lowered_regular}
use Rattle.chained_functions.proofs.Known.{selected_exits, placed_for, few_nest}
use Rattle.chained_functions.proofs.Ordered.{slots_in_order, points_in_order, total_in_order, homes_in_order}
use Rattle.code_bounds.specs.Lines.{line_words, lines_words}
use Rattle.code_bounds.proofs.Lines.{function_short}
use Rattle.code_bounds.proofs.Slots.{few_slots, frame_few}
use Rattle.code_bounds.proofs.Tidying.{linear_words, linear_points}

module _ {defined : List ℕ → Option DefinedSymbol} {tree : FunctionTree} (accepted : IsAccepted defined tree) {q : Mach} (is : IsPlacedFor tree q) {l : Lin}
    (linear : IsLinearOf q l) (chosen : Order) {m : Lin} (same : m ≡ in_order chosen l) where
  promise : Selects tree (selected tree)
  promise = promised defined tree accepted

  few_made : m.slots ≤ 2 * (tree.tokens - all_tries tree.body)
  few_made =
      let ordered = ap (λ (m : Lin). m.slots) same ∙ slots_in_order chosen l in
      let few =
      few_slots (selected tree) q l.slots (2 * (tree.tokens - all_tries tree.body))
      (λ k s. promise.no_slot s.register s.among k s.stands)
      is.slots linear.slots in
      omega (arith, ordered, few)

  -- the frame, and 16 bytes for each try that may be on top
  pub frame_small : frame_bytes m + 16 * tries tree ≤ 16 * tree.tokens + 32
  frame_small =
      let bytes = frame_few m (2 * (tree.tokens - all_tries tree.body)) few_made in
      let nest = few_nest tree.body in
      let cover = accepted.covered.tokens_cover in
      omega (arith, bytes, nest, cover)

  -- which descriptors can say
  pub frame_fits : frame_bytes m + 16 * tries tree ≤ 1048576
  frame_fits =
      let small = frame_small in
      let few = few_tokens tree accepted.checked.limits_kept in
      omega (arith, small, few)

  few_entries : (d : Descr) → NamesHomes m d → length d.entries ≤ 21 + 2 * tree.tokens
  few_entries d h = let few = h.few in let slots = few_made in omega (arith, few, slots)

  pub bounded : {choices : Choices} (ds : List Descr) (pieces : Pieces) → IsMadeOf choices tree m ds pieces → tries tree ≤ 250 → IsBoundedBy tree ds pieces
  bounded ds pieces made shallow =
      let short = function_short m made.emitted.traps ds in
      let regular = lowered_regular q is.formed is.placed is.seated in
      let lines = linear_words q l regular linear.made in
      let ordered_words = ap (λ (m : Lin). lines_words m.code) same ∙ total_in_order line_words lines_words refl (λ i is. refl) chosen l in
      let words = selected_words tree shallow in
      let made_words = is.words in
      let nodes = accepted.covered.nodes_covered in
      let rarely = is.exits in
      let values = selected_exits tree in
      let cover = accepted.covered.tokens_cover in
      let calls = linear_points q l regular linear.made in
      let ordered_points = ap (λ (m : Lin). frame_point_count m.code) same ∙ points_in_order chosen l in
      let made_points = is.points in
      let points = selected_points tree shallow in
      let count = made.count in
      subst (IsBoundedBy tree ds) (sym made.emitted.is)
      (record {
        frame = frame_small;
        words = omega (arith, short, ordered_words, lines, words, made_words, nodes, rarely, values, cover);
        points = omega (arith, count, ordered_points, calls, made_points, points);
        entries = All-weaker (NamesHomes m) (λ (d : Descr). length d.entries ≤ 21 + 2 * tree.tokens) few_entries ds (homes_in_order chosen same linear.regular ds made.exact);
      })

-- So it is of each function of a file that the front accepts.
pub text_bounded : {choices : Choices} (text : List ℕ) (file : FileTree) → IsFileOf text file → (tree : FunctionTree) → Contains (functions file) tree →
    (m : Lin) (ds : List Descr) (pieces : Pieces) → IsMadeOf choices tree m ds pieces → IsBoundedBy tree ds pieces
text_bounded {choices} text file is tree c m ds pieces made =
    let accepted : IsAccepted (definitions file) tree = function_accepted text file is tree c in
    bounded accepted (placed_for accepted made.is_prepared made.allocated) made.linear choices.order made.ordered ds pieces made (text_nests text file tree is c)
