-- What the compiler makes of one function of a text, by what is chosen: its Mach function, what the
-- passes over Mach and register allocation make of that, its Linear function, its frame descriptors and
-- its pieces of code.
--
-- It is a relation with one value, and no function: some passes are definitions, and the others are
-- determined by what they promise. That there is at most one is proved in `made_once`.
use Rattle.std.specs.Prelude.{◌≡◌, List, length}
use Rattle.choices.specs.declared.choices.Choices.{Choices}
use Rattle.choices.specs.declared.choices.Order.{Order}
use Rattle.choices.specs.declared.choices.Order.TheVariants as order
use Rattle.cmm_tree.specs.Tree.{FunctionTree}
use Rattle.schedule_rules.specs.Orders.{scheduled}
use Rattle.selection_rules.specs.Select.{selected}
use Rattle.mach_ir.specs.declared.mach.Mach.{Mach}
use Rattle.prepare_rules.specs.Prepared.{IsPreparedMach}
use Rattle.reg_rounds_rules.specs.Rounds.{IsRegisterAllocated}
use Rattle.lin_ir.specs.Descriptors.{AreExact, frame_point_count}
use Rattle.lin_ir.specs.declared.descr.Descr.{Descr}
use Rattle.lin_ir.specs.declared.lin.Lin.{Lin}
use Rattle.lin_tidy_rules.specs.Leaving.{with_code}
use Rattle.lin_pass.specs.Linear.{IsLinearOf}
use Rattle.rv_emit_rules.specs.Emitted.{IsEmitted}
use Rattle.rv_pieces.specs.declared.piece.Pieces.{Pieces}

-- lines in the order that is chosen
abbrev pub in_order : Order → Lin → Lin
in_order order.Plain l = l
in_order order.List l = with_code l (scheduled l.code)

pub record IsMadeOf (choices : Choices) (tree : FunctionTree) (m : Lin) (ds : List Descr)
    (pieces : Pieces) : Type 0 where
  -- selected, and prepared for register allocation
  pub prepared : Mach
  pub is_prepared : IsPreparedMach (selected tree) prepared
  -- its registers at places
  pub mach : Mach
  pub allocated : IsRegisterAllocated choices.alloc prepared mach
  -- as tidy lines, and these in their order
  pub lines : Lin
  pub linear : IsLinearOf mach lines
  pub ordered : m ≡ in_order choices.order lines
  -- a descriptor for each frame point, which names what is live after it
  pub exact : AreExact m ds
  pub count : length ds ≡ frame_point_count m.code
  pub emitted : IsEmitted m ds pieces
