-- Exits that have no words: which lines they are, and what holds of the part of a line before any code.
use Rattle.std.proofs.Common.{◌≡◌, ℕ, Bool, true, false, cond, ◌&&◌, List, [], ◌∷◌, Option, refl, sym, ap, ◌∙◌, subst}
use Rattle.std.proofs.lemmas.Bool.{eqb-true, and_parts}
use Rattle.mach_ir.specs.declared.mach.Test.{Test}
use Rattle.lin_ir.specs.Formed.{is_label, label_of}
use Rattle.lin_ir.specs.Meaning.{after_label, has_label, passes_frame}
use Rattle.lin_ir.specs.declared.descr.Descr.{Descr}
use Rattle.lin_ir.specs.declared.lin.Flow.TheVariants as flow
use Rattle.lin_ir.specs.declared.lin.Line.{Line}
use Rattle.lin_ir.specs.declared.lin.LinOp.{LinOp}
use Rattle.lin_ir.specs.declared.lin.LinOp.TheVariants as lin
use Rattle.rv_pieces.specs.declared.piece.Piece.{Piece}
use Rattle.rv_emit_rules.specs.Emitted.{part_of_line, part_before}
use Rattle.rv_emit_rules.specs.Entry.{FrameLayout}
use Rattle.rv_emit_rules.specs.Units.{is_branch, tests_first, falls_to, is_free_exit}

-- ---- which lines they are

-- the label comes, after other labels alone, and then a branch
pub data FallsTo (l : ℕ) : List Line → Type 0 where
  falls_here : {i j : Line} {rest : List Line} → has_label l i.op ≡ true → is_branch j.op ≡ true → FallsTo l (i ∷ j ∷ rest)
  falls_past : {i : Line} {next : List Line} → has_label l i.op ≡ false → is_label i.op ≡ true → FallsTo l next → FallsTo l (i ∷ next)

-- the code that begins with that branch
abbrev pub branch_code : {l : ℕ} {next : List Line} → FallsTo l next → List Line
branch_code (falls_here {j = j} {rest = rest} has tests) = j ∷ rest
branch_code (falls_past other mark falls) = branch_code falls

pub falls_tests : {l : ℕ} {next : List Line} (falls : FallsTo l next) → tests_first (branch_code falls) ≡ true
falls_tests (falls_here has tests) = tests
falls_tests (falls_past other mark falls) = falls_tests falls

pub falls_after : {l : ℕ} {next : List Line} (falls : FallsTo l next) → after_label l next ≡ branch_code falls
falls_after {l} (falls_here {j = j} {rest = rest} has tests) = ap (λ b. cond b (j ∷ rest) (after_label l (j ∷ rest))) has
falls_after {l} (falls_past {next = next} other mark falls) = ap (λ b. cond b next (after_label l next)) other ∙ falls_after falls

pub record FreeExit (g : LinOp) (next : List Line) : Type 0 where
  pub to : ℕ
  pub is : g ≡ lin.Flow (flow.Exit to)
  pub falls : FallsTo to next

pub falls_is : (l : ℕ) (next : List Line) → falls_to l next ≡ true → FallsTo l next
falls_is l [] e = cc
falls_is l (i ∷ next) e = by (has_label l i.op) refl e (λ h. falls_is l next h)
  where
    here : (next : List Line) → has_label l i.op ≡ true → tests_first next ≡ true → FallsTo l (i ∷ next)
    here [] has e = cc
    here (j ∷ rest) has e = falls_here has e

    by : (b : Bool) → has_label l i.op ≡ b → cond b (tests_first next) (is_label i.op && falls_to l next) ≡ true → (falls_to l next ≡ true → FallsTo l next) →
        FallsTo l (i ∷ next)
    by true has e ih = here next has e
    by false other e ih = let h = and_parts (is_label i.op) (falls_to l next) e in falls_past other h.0 (ih h.1)

-- a label, as a line
pub record IsLabelLine (g : LinOp) : Type 0 where
  pub number : ℕ
  pub is : g ≡ lin.Flow (flow.Label number)

pub label_line : (g : LinOp) → is_label g ≡ true → IsLabelLine g
label_line (lin.Op g) e = cc
label_line (lin.Flow (flow.Label k)) e = record { number = k; is = refl }
label_line (lin.Flow (flow.Jump k)) e = cc
label_line (lin.Flow (flow.Exit k)) e = cc
label_line (lin.Flow (flow.Branch t k)) e = cc
label_line (lin.Flow (flow.Switch ls)) e = cc
label_line (lin.Flow (flow.PushTrap k)) e = cc
label_line (lin.Flow flow.PopTrap) e = cc
label_line (lin.Flow flow.EnterTrap) e = cc

pub own_label_line : (l : ℕ) (g : LinOp) → has_label l g ≡ true → g ≡ lin.Flow (flow.Label l)
own_label_line l (lin.Op g) e = cc
own_label_line l (lin.Flow (flow.Label k)) e = ap (λ k. lin.Flow (flow.Label k)) (eqb-true k l e)
own_label_line l (lin.Flow (flow.Jump k)) e = cc
own_label_line l (lin.Flow (flow.Exit k)) e = cc
own_label_line l (lin.Flow (flow.Branch t k)) e = cc
own_label_line l (lin.Flow (flow.Switch ls)) e = cc
own_label_line l (lin.Flow (flow.PushTrap k)) e = cc
own_label_line l (lin.Flow flow.PopTrap) e = cc
own_label_line l (lin.Flow flow.EnterTrap) e = cc

-- only an exit has no words
pub free_is_exit : (g : LinOp) (next : List Line) → is_free_exit g next ≡ true → FreeExit g next
free_is_exit (lin.Op g) next e = cc
free_is_exit (lin.Flow (flow.Label l)) next e = cc
free_is_exit (lin.Flow (flow.Jump l)) next e = cc
free_is_exit (lin.Flow (flow.Exit l)) next e = record { to = l; is = refl; falls = falls_is l next e }
free_is_exit (lin.Flow (flow.Branch t l)) next e = cc
free_is_exit (lin.Flow (flow.Switch ls)) next e = cc
free_is_exit (lin.Flow (flow.PushTrap l)) next e = cc
free_is_exit (lin.Flow flow.PopTrap) next e = cc
free_is_exit (lin.Flow flow.EnterTrap) next e = cc

-- so what holds of exits holds of these
pub if_free : (Q : LinOp → Type 0) → ((l : ℕ) → Q (lin.Flow (flow.Exit l))) → (g : LinOp) (next : List Line) → is_free_exit g next ≡ true → Q g
if_free Q q g next e = let it = free_is_exit g next e in subst Q (sym it.is) (q it.to)

pub free_has_no_label : (g : LinOp) (next : List Line) → is_free_exit g next ≡ true → label_of g ≡ []
free_has_no_label = if_free (λ g. label_of g ≡ []) (λ l. refl)

pub free_passes_no_frame : (g : LinOp) (next : List Line) → is_free_exit g next ≡ true → passes_frame g ≡ false
free_passes_no_frame = if_free (λ g. passes_frame g ≡ false) (λ l. refl)

pub free_is_no_branch : (g : LinOp) (next : List Line) → is_free_exit g next ≡ true → is_branch g ≡ false
free_is_no_branch = if_free (λ g. is_branch g ≡ false) (λ l. refl)

-- what holds of branches holds of these
pub if_branch : (Q : LinOp → Type 0) → ((t : Test) (l : ℕ) → Q (lin.Flow (flow.Branch t l))) → (g : LinOp) → is_branch g ≡ true → Q g
if_branch Q q (lin.Op g) e = cc
if_branch Q q (lin.Flow (flow.Label l)) e = cc
if_branch Q q (lin.Flow (flow.Jump l)) e = cc
if_branch Q q (lin.Flow (flow.Exit l)) e = cc
if_branch Q q (lin.Flow (flow.Branch t l)) e = q t l
if_branch Q q (lin.Flow (flow.Switch ls)) e = cc
if_branch Q q (lin.Flow (flow.PushTrap l)) e = cc
if_branch Q q (lin.Flow flow.PopTrap) e = cc
if_branch Q q (lin.Flow flow.EnterTrap) e = cc

pub branch_is_not_free : (g : LinOp) (next : List Line) → is_branch g ≡ true → is_free_exit g next ≡ false
branch_is_not_free g next e = if_branch (λ g. is_free_exit g next ≡ false) (λ t l. refl) g e

-- ---- parts

module _ (t : ℕ) (f : FrameLayout) (d : Option Descr) (i : Line) (next : List Line) where
  pub part_if_free : is_free_exit i.op next ≡ true → part_before t f d i next ≡ []
  part_if_free e = ap (λ b. cond b [] (part_of_line t f d i)) e

  pub part_unless_free : is_free_exit i.op next ≡ false → part_before t f d i next ≡ part_of_line t f d i
  part_unless_free e = ap (λ b. cond b [] (part_of_line t f d i)) e

  -- what holds of no words where they are an exit's, and else of the part
  pub part_by : (Q : List Piece → Type 0) → (is_free_exit i.op next ≡ true → Q []) → (is_free_exit i.op next ≡ false → Q (part_of_line t f d i)) →
      Q (part_before t f d i next)
  part_by Q none some = by (is_free_exit i.op next) refl
    where
      by : (b : Bool) → is_free_exit i.op next ≡ b → Q (cond b [] (part_of_line t f d i))
      by true e = none e
      by false e = some e
