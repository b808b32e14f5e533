-- What is known of the Mach function with places that is made of a function of an accepted text, whatever
-- passes made it. That its code does what the text says, and is as small, rests on this alone.
--
-- No pass counts slots. Each keeps that no origin is new, and that a new slot is numbered as its register's
-- origin; selected code has no slot. So slots are among the origins of selection's open registers, at most
-- `2 * (tokens - tries)`, whatever passes there were, and frames need nothing of the passes.
use Rattle.std.specs.Prelude.{◌+◌, ◌*◌, ◌-◌, ◌≤◌, length, All}
use Rattle.cmm_tree.specs.Measures.{all_tries}
use Rattle.cmm_tree.specs.Tree.{FunctionTree}
use Rattle.correctness.specs.Measures.{tries}
use Rattle.mach_ir.specs.Formed.{WellFormed}
use Rattle.mach_ir.specs.Keeps.{Keeps}
use Rattle.mach_ir.specs.Placed.{FullyPlaced}
use Rattle.mach_ir.specs.Seats.{Seated}
use Rattle.mach_ir.specs.Sizes.{operand_count}
use Rattle.mach_ir.specs.Walks.{NoAddrLive}
use Rattle.mach_ir.specs.declared.mach.Instr.{Instr}
use Rattle.mach_ir.specs.declared.mach.Mach.{Mach}
use Rattle.pass_rules.specs.Carried.{TriesAtMost, OffsetFits, EndsInReturn}
use Rattle.pass_rules.specs.Measures.{code_words, code_points, exit_count}
use Rattle.colouring_rules.specs.Places.{SlotsGrow}
use Rattle.selection_rules.specs.Select.{selected}

pub record IsPlacedFor (tree : FunctionTree) (q : Mach) : Type 0 where
  -- it does what is selected of the text's function, each register has a place, and joined ones are
  -- apart
  pub keeps : Keeps (selected tree) q
  pub formed : WellFormed q
  pub placed : FullyPlaced q
  pub seated : Seated q
  pub no_addr : NoAddrLive q
  -- no more tries are round a place than are round one of the text
  pub tries : TriesAtMost q (tries tree)
  pub offsets : All (λ (i : Instr). OffsetFits i.op) q.code
  pub ends : EndsInReturn q.code
  -- words: two copies for each operand and result of selected code are more than enough, and three
  -- for each open register, of which a token has two at the most
  pub words : code_words q.code ≤
      code_words (selected tree).code + 12 * operand_count (selected tree).code + 36 * tree.tokens
  pub points : code_points q.code ≤ code_points (selected tree).code
  pub exits : exit_count q.code ≤ exit_count (selected tree).code
  pub instrs : length q.code ≤ 9640 * tree.tokens
  pub labels : q.labels ≤ 23 * tree.tokens
  -- a slot for each of these registers at the most
  pub slots : SlotsGrow (selected tree) q (2 * (tree.tokens - all_tries tree.body))
