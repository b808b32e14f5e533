-- What is known of a line and of the words of its part.
use Rattle.std.specs.Prelude.{◌≡◌, ◌⊎◌, ℕ, suc, ◌^◌, ◌<◌, true, List, ◌∷◌, length, Option, Contains, ⊤}
use Rattle.bs_words.specs.declared.types.Comp.{Comp}
use Rattle.cmm_meaning.specs.Setting.{Setting}
use Rattle.rv_layout_rules.specs.Known.{part_of_line, FrameLayout, tests_first}
use Rattle.rv_layout_rules.specs.Words.{NameAddresses}
use Rattle.lin_ir.specs.Formed.{IsFormedLine, IsQuiet, Locates, NamesLabel, SetsLocation, labels_in, lin_operand_seats, lin_result_seats, places_of, spare}
use Rattle.lin_ir.specs.Meaning.{after_label, code_at}
use Rattle.lin_ir.specs.Walks.{may_raise, targets}
use Rattle.lin_ir.specs.declared.descr.Descr.{Descr}
use Rattle.lin_ir.specs.declared.lin.Flow.TheVariants as flow
use Rattle.lin_ir.specs.declared.lin.Line.{Line}
use Rattle.lin_ir.specs.declared.lin.LinOp.{LinOp}
use Rattle.lin_ir.specs.declared.lin.LinOp.TheVariants as lin
use Rattle.lin_ir.specs.declared.lin.Lin.{Lin}
use Rattle.mach_ir.specs.Acts.{Target}
use Rattle.mach_ir.specs.Seats.{AreSeated}
use Rattle.mach_ir.specs.Walks.{OneOf}
use Rattle.mach_ir.specs.declared.op.Access.TheVariants as access
use Rattle.mach_ir.specs.declared.op.Op.TheVariants as op
use Rattle.lin_machine.specs.Relation.{Laid}
use Rattle.lin_machine.specs.View.{Fixed}
use Rattle.line_stands.specs.Names.{NamesStand}
use Rattle.line_stands.specs.Parts.{PartStands}

-- t0 is live nowhere: chained functions do not name it
abbrev pub Nowhere : List Line → Type 0
Nowhere code = ⊥

-- Where t0 is live before and after a line at which these traps are pushed.
pub record SparePasses (m : Lin) (live : List Line → Type 0) (tries : List ℕ) (i : Line)
    (next : List Line) : Type 0 where
  pub reads : (t : Comp) → Contains i.args (record { loc = spare; comp = t }) → live (i ∷ next)
  pub on : (t : Target) → OneOf t (targets i.op) → live (code_at m.code next t) →
      SetsLocation i spare ⊎ (IsQuiet i.op × live (i ∷ next))
  -- nowhere where a raise comes to
  pub aside : may_raise i.op ≡ true → (l : ℕ) → Contains tries l → live (after_label l m.code) → ⊥

-- the offset of a load or of a store is a word
abbrev pub OffsetFits : LinOp → Type 0
OffsetFits (lin.Op (op.Access (access.Load k offset))) = offset < 2 ^ 64
OffsetFits (lin.Op (op.Access (access.Store k offset))) = offset < 2 ^ 64
OffsetFits (lin.Op _) = ⊤
OffsetFits (lin.Flow _) = ⊤

-- A line of the function, the code after it, and the words of its part in the image, where these
-- traps are pushed.
pub record LineStands (s : Fixed) (laid : Laid) (n : NameAddresses) (m : Lin) (c : Setting)
    (live : List Line → Type 0) (tries : List ℕ) (f : FrameLayout) (d : Option Descr) (i : Line)
    (next : List Line) : Type 0 where
  pub part : PartStands s n (laid.part (suc (length next))) (laid.part (length next))
      (part_of_line (length tries) f d i)
  pub names : NamesStand s laid n m c
  pub frame : f.bytes ≡ laid.frame
  pub saves : f.saves ≡ laid.saves
  pub slots : m.slots ≡ laid.slots
  pub among : Contains m.code i
  pub formed : IsFormedLine i
  pub offset : OffsetFits i.op
  pub args : Locates m i.args
  pub results : Locates m i.results
  pub operand_seats : AreSeated (lin_operand_seats i.op) (places_of i.args)
  pub result_seats : AreSeated (lin_result_seats i.op) (places_of i.results)
  -- the labels that the line names, and those of the pushed traps, are among the function's
  pub named : (l : ℕ) → NamesLabel l i.op → Contains (labels_in m.code) l
  pub handlers : (l : ℕ) → Contains tries l → Contains (labels_in m.code) l
  pub spare : SparePasses m live tries i next

-- An exit that has no words. Control goes to a branch, whose part begins where that of the exit
-- does, since the labels between have no words either.
pub record FreeStands (laid : Laid) (m : Lin) (i : Line) (next : List Line) : Type 0 where
  pub label : ℕ
  pub is : i.op ≡ lin.Flow (flow.Exit label)
  pub place : laid.part (length (after_label label m.code)) ≡ laid.part (suc (length next))
  pub tests : tests_first (after_label label m.code) ≡ true
