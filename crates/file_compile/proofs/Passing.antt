-- What the passes ask of a function of an accepted file, and what they make of it.
use Rattle.std.proofs.Common.{◌≡◌, ℕ, List, length, refl, subst, sym}
use Rattle.file_promise.proofs.Known.{regular_in_order, ordered_lines, frame_fits, line_room, selected_preparable, selected_room, ready, prepared_room, carried, placed_for, function_accepted, selection_room, definitions}
use Rattle.cmm_tree.specs.Tree.{FunctionTree, FileTree, functions}
use Rattle.rv_emit_rules.specs.Emitted.{IsEmitted}
use Rattle.lin_ir.specs.Descriptors.{AreExact, FitsDescriptors, frame_point_count}
use Rattle.lin_ir.specs.Formed.{AreLocated}
use Rattle.lin_ir.specs.Walks.{OneDepth}
use Rattle.lin_ir.specs.declared.descr.Descr.{Descr}
use Rattle.lin_ir.specs.declared.lin.Lin.{Lin}
use Rattle.mach_ir.specs.Formed.{WellFormed}
use Rattle.mach_ir.specs.Placed.{WellPlaced}
use Rattle.mach_ir.specs.Sizes.{HasRoom}
use Rattle.mach_ir.specs.Text.{mach_text}
use Rattle.mach_ir.specs.declared.mach.Mach.{Mach}
use Rattle.prepare.specs.Known.{IsPreparable, IsPreparedMach, prepared_size, IsOverMach, IsPassedTo}
use Rattle.prepare.proofs.Known.{prepared as prepared_by}
use Rattle.stages.specs.declared.stage.Stage.{Stage}
use Rattle.stages.specs.declared.stage.Stage.TheVariants.{Split, Alloc, Linear, Frames, Code}
use Rattle.file_promise.specs.Known.{IsFunctionMade, IsPlacedFor, IsAccepted}
use Rattle.linearise_rules.specs.Sizes.{HasLineRoom}
use Rattle.colouring_rules.specs.Places.{ColoursLow}
use Rattle.choices.specs.declared.choices.Choices.{Choices}
use Rattle.reg_rounds.specs.Known.{allocated_size}
use Rattle.rv_pieces.specs.declared.piece.Pieces.{Pieces}
use Rattle.selection_rules.specs.Select.{selected}
use Rattle.selection_places.proofs.Placed.{selected_low}
use Rattle.selection_scope.specs.Room.{IsSelectable}
use Rattle.file_compile.specs.Accepted.{IsAcceptedFunction}
use Rattle.file_compile.specs.Listed.{IsAllocatedFor, IsLinearFor, IsTextOf, IsPassText, AreFunctionTexts, IsStageText}

module _ (tree : FunctionTree) (accepted : IsAcceptedFunction tree) (mach : Mach) (is : mach ≡ selected tree) where
  known : IsAccepted (definitions accepted.file) tree
  known = function_accepted accepted.of_file.text accepted.file accepted.of_file.is_file tree accepted.among

  pub preparable : IsPreparable mach
  preparable = subst IsPreparable (sym is) (selected_preparable known)

  pub room : HasRoom (prepared_size (length mach.params)) mach
  room = subst (λ (m : Mach). HasRoom (prepared_size (length m.params)) m) (sym is) (selected_room known)

  module _ (prepared : Mach) (made : IsPassedTo mach Split prepared) where
    pub of_selected : IsPreparedMach (selected tree) prepared
    of_selected = prepared_by (subst (λ (m : Mach). IsPassedTo m Split prepared) is made)

    pub prepared_formed : WellFormed prepared
    prepared_formed = (ready known of_selected).formed

    pub prepared_placed : WellPlaced prepared
    prepared_placed = (ready known of_selected).placed

    pub prepared_low : ColoursLow prepared
    prepared_low = (carried known (ready known of_selected)).colours_low (selected_low tree)

    pub prepared_has_room : HasRoom allocated_size prepared
    prepared_has_room = prepared_room known of_selected

-- a function of an accepted file can be selected
pub can_be_selected : (tree : FunctionTree) → IsAcceptedFunction tree → IsSelectable tree
can_be_selected tree accepted =
    selection_room (definitions accepted.file) tree (function_accepted accepted.of_file.text accepted.file accepted.of_file.is_file tree accepted.among)

module _ (tree : FunctionTree) (accepted : IsAcceptedFunction tree) where
  known_here : IsAccepted (definitions accepted.file) tree
  known_here = function_accepted accepted.of_file.text accepted.file accepted.of_file.is_file tree accepted.among

  module _ {choices : Choices} where
    -- what is allocated for a function is placed for it
    pub allocated_placed : (m : Mach) → IsAllocatedFor choices tree m → IsPlacedFor tree m
    allocated_placed m a = placed_for known_here a.is_prepared a.allocated

    -- with numbers for its lines
    pub allocated_line_room : (m : Mach) → IsAllocatedFor choices tree m → HasLineRoom m
    allocated_line_room m a = line_room known_here (allocated_placed m a)

    -- and its lines are what descriptors ask
    pub lines_within : (l : Lin) → IsLinearFor choices tree l → FitsDescriptors l
    lines_within l are =
        let placed = allocated_placed are.mach are.is_allocated in
        (ordered_lines known_here placed are.linear choices.order are.ordered (frame_fits known_here placed are.linear choices.order are.ordered)).within

-- Lines have locations of the machine, and each of them is reached with one number of pushed traps.
pub lines_located : {choices : Choices} {tree : FunctionTree} (l : Lin) → IsLinearFor choices tree l → AreLocated l
lines_located {choices} l are = (regular_in_order choices.order are.ordered are.linear.regular).well.locations

pub lines_depth : {choices : Choices} {tree : FunctionTree} (l : Lin) → IsLinearFor choices tree l → OneDepth l
lines_depth {choices} l are = (regular_in_order choices.order are.ordered are.linear.regular).well.traps.depth

-- the pieces of its lines are made of it
pub function_made : {tree : FunctionTree} {choices : Choices} (lin : Lin) → IsLinearFor choices tree lin → (ds : List Descr) (pieces : Pieces) → AreExact lin ds →
    length ds ≡ frame_point_count lin.code → IsEmitted lin ds pieces → IsFunctionMade choices tree pieces
function_made lin are ds pieces exact count emitted =
    let is = are.is_allocated in
    record {
      lin = lin;
      descriptors = ds;
      made = record {
        prepared = is.prepared;
        is_prepared = is.is_prepared;
        mach = are.mach;
        allocated = is.allocated;
        lines = are.lines;
        linear = are.linear;
        ordered = are.ordered;
        exact = exact;
        count = count;
        emitted = emitted;
      };
    }

-- the text of what the passes up to a stage make of a selected function is one of that
pub of_selected_text : (stage : Stage) (tree : FunctionTree) (mach passed : Mach) (text : List ℕ) → mach ≡ selected tree → IsPassedTo mach stage passed → text ≡ mach_text passed →
    IsTextOf mach_text (IsPassedTo (selected tree) stage) text
of_selected_text stage tree mach passed text is made spelled =
    record { made = passed; is = subst (λ (m : Mach). IsPassedTo m stage passed) is made; spelled = spelled }

-- ---- stages that are not named

-- what is no later stage is over Mach, before allocation
pub over_mach : (s : Stage) → (s ≡ Alloc → ⊥) → (s ≡ Linear → ⊥) → (s ≡ Frames → ⊥) → (s ≡ Code → ⊥) → IsOverMach s
over_mach Alloc a b c d = absurd (a refl)
over_mach Linear a b c d = absurd (b refl)
over_mach Frames a b c d = absurd (c refl)
over_mach Code a b c d = absurd (d refl)
over_mach s a b c d = tt

-- its text is what the passes make
pub over_mach_text : (choices : Choices) (s : Stage) (tree : FunctionTree) (text : List ℕ) → IsOverMach s → IsTextOf mach_text (IsPassedTo (selected tree) s) text → IsPassText choices s tree text
over_mach_text choices Alloc tree text over is = absurd over
over_mach_text choices Linear tree text over is = absurd over
over_mach_text choices Frames tree text over is = absurd over
over_mach_text choices Code tree text over is = absurd over
over_mach_text choices s tree text over is = is

-- what is no stage of the image has the texts of the functions
pub functions_stage : (choices : Choices) (s : Stage) (file : FileTree) (text : List ℕ) → (s ≡ Frames → ⊥) → (s ≡ Code → ⊥) → AreFunctionTexts choices s (functions file) text → IsStageText choices file s text
functions_stage choices Frames file text a b are = absurd (a refl)
functions_stage choices Code file text a b are = absurd (b refl)
functions_stage choices s file text a b are = are
