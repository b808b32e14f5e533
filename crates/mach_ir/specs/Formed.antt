-- What holds of every Mach function that the passes hand on, whatever it does: the forms of its
-- instructions, its labels, and how its tries nest. Each of these can be read off the text.
--
-- Control goes back by an exit alone, a handler is after its try, and a function is left outside its tries:
-- the bound on instructions rests on it.
use Rattle.std.specs.Prelude.{◌≡◌, ◌≢◌, ℕ, ◌<◌, ◌≤◌, Bool, true, false, cond, ◌+◌, nat_eq, List, [], ◌∷◌, ◌++◌, length, map, All, AllPairs, Contains}
use Rattle.bs_words.specs.declared.types.Comp.{Comp}
use Rattle.bs_words.specs.declared.types.Comp.TheVariants as comp
use Rattle.mach_ir.specs.Acts.{At, drop_tries, leaves_function}
use Rattle.mach_ir.specs.Forms.{HasForm, IsTested, results_of_type}
use Rattle.mach_ir.specs.Meaning.{has_label, is_handler_of, code_at, from_handler, tries_at}
use Rattle.mach_ir.specs.Walks.{OneOf, targets, may_raise, StandsAsInstr, IsRegister}
use Rattle.mach_ir.specs.declared.op.Leaving.TheVariants as leaving
use Rattle.mach_ir.specs.declared.op.Op.{Op}
use Rattle.mach_ir.specs.declared.op.Op.TheVariants as op
use Rattle.mach_ir.specs.declared.reg.Reg.{Reg}
use Rattle.mach_ir.specs.declared.mach.Test.{Test}
use Rattle.mach_ir.specs.declared.mach.Mark.{Mark}
use Rattle.mach_ir.specs.declared.mach.Mark.TheVariants as mark
use Rattle.mach_ir.specs.declared.mach.MachOp.{MachOp}
use Rattle.mach_ir.specs.declared.mach.MachOp.TheVariants as mach
use Rattle.mach_ir.specs.declared.mach.Instr.{Instr}
use Rattle.mach_ir.specs.declared.mach.Mach.{Mach}

-- ---- forms of instructions

abbrev pub comps : List Reg → List Comp
comps rs = map (λ (r : Reg). r.comp) rs

-- the components of the operands and of the results that go with a mark
pub data MarkHasForm : Mark → List Comp → List Comp → Type 0 where
  exit_form : {l n : ℕ} → MarkHasForm (mark.Exit l n) [] []
  if_form : {t : Test} {l : ℕ} {args : List Comp} → IsTested t args →
      MarkHasForm (mark.If t l) args []
  else_form : {l end : ℕ} → MarkHasForm (mark.Else l end) [] []
  switch_form : {labels : List ℕ} {index : Comp} →
      MarkHasForm (mark.Switch labels) (index ∷ []) []
  case_form : {indexes : List ℕ} {l end : ℕ} → MarkHasForm (mark.Case indexes l end) [] []
  catch_form : MarkHasForm mark.Catch [] []
  with_form : {l end : ℕ} → MarkHasForm (mark.With l end) [] []
  try_form : {l : ℕ} → MarkHasForm (mark.Try l) [] []
  leave_form : {l end : ℕ} → MarkHasForm (mark.Leave l end) [] []
  handler_form : {l : ℕ} → MarkHasForm (mark.Handler l) [] (comp.Val ∷ [])
  end_form : {l : ℕ} → MarkHasForm (mark.End l) [] []

pub data IsFormedInstruction : Instr → Type 0 where
  formed_op : {f : Op} {args results : List Reg} → HasForm f (comps args) (comps results) →
      IsFormedInstruction (record { op = mach.Op f; args = args; results = results })
  formed_mark : {f : Mark} {args results : List Reg} →
      MarkHasForm f (comps args) (comps results) →
      IsFormedInstruction (record { op = mach.Mark f; args = args; results = results })

-- no register twice among the results
abbrev pub AreDistinct : List Reg → Type 0
AreDistinct rs = AllPairs (λ (r q : Reg). r.number ≢ q.number) rs

-- ---- labels

abbrev pub labels_of_mark : Mark → List ℕ
labels_of_mark (mark.Else l end) = l ∷ []
labels_of_mark (mark.Case indexes l end) = l ∷ []
labels_of_mark (mark.With l end) = l ∷ []
labels_of_mark (mark.Handler l) = l ∷ []
labels_of_mark (mark.End l) = l ∷ []
labels_of_mark _ = []

-- the labels of the places of a code, a handler's among them
abbrev pub labels_in : List Instr → List ℕ
labels_in [] = []
labels_in (i ∷ is) = labels_from i.op (labels_in is)
  where
    labels_from : MachOp → List ℕ → List ℕ
    labels_from (mach.Op f) ls = ls
    labels_from (mach.Mark f) ls = labels_of_mark f ++ ls

-- a label that an instruction leads to: it is the label of a place, no handler's
abbrev pub TargetsLabel : MachOp → ℕ → Type 0
TargetsLabel f l = OneOf (At l) (targets f)

-- the place of a label is in this code
pub data LabelOccursIn (l : ℕ) : List Instr → Type 0 where
  place_here : {i : Instr} {is : List Instr} → has_label l i.op ≡ true → LabelOccursIn l (i ∷ is)
  place_below : {i : Instr} {is : List Instr} → LabelOccursIn l is → LabelOccursIn l (i ∷ is)

-- the mark of a handler is in this code
pub data HasHandler (l : ℕ) : List Instr → Type 0 where
  handler_here : {i : Instr} {is : List Instr} → is_handler_of l i.op ≡ true →
      HasHandler l (i ∷ is)
  handler_below : {i : Instr} {is : List Instr} → HasHandler l is → HasHandler l (i ∷ is)

abbrev pub is_exit : MachOp → Bool
is_exit (mach.Mark (mark.Exit l n)) = true
is_exit _ = false

-- Each label that is named is that of a place, and only an exit, which is a unit, leads back. The
-- handler of a try comes after the end of its body.
pub record LabelsStand (m : Mach) : Type 0 where
  pub named : (i : Instr) (next : List Instr) → StandsAsInstr i next m.code → (l : ℕ) →
      TargetsLabel i.op l → LabelOccursIn l m.code
  pub forward : (i : Instr) (next : List Instr) → StandsAsInstr i next m.code → (l : ℕ) →
      TargetsLabel i.op l → is_exit i.op ≡ false → LabelOccursIn l next
  pub handlers : (i : Instr) (next : List Instr) → StandsAsInstr i next m.code → (l end : ℕ) →
      i.op ≡ mach.Mark (mark.Leave l end) → HasHandler l next

-- ---- tries

-- the tries that are pushed where an instruction goes on at a label
abbrev pub tries_left : MachOp → List ℕ → List ℕ
tries_left (mach.Mark (mark.Exit l n)) tries = drop_tries n tries
tries_left (mach.Mark (mark.Leave l end)) tries = drop_tries 1 tries
tries_left _ tries = tries

-- what leaves the function: returns and tail calls
abbrev pub leaves : MachOp → Bool
leaves (mach.Op f) = leaves_function f
leaves (mach.Mark f) = false

-- The tries that are pushed are those round the place by the text, wherever control goes.
pub record IsNested (m : Mach) : Type 0 where
  pub at_entry : tries_at m.code ≡ []
  pub at_label : (i : Instr) (next : List Instr) → StandsAsInstr i next m.code → (l : ℕ) →
      TargetsLabel i.op l →
      tries_at (code_at m.code next (At l)) ≡ tries_left i.op (tries_at (i ∷ next))
  pub at_try : (i : Instr) (next : List Instr) → StandsAsInstr i next m.code → (l : ℕ) →
      i.op ≡ mach.Mark (mark.Try l) → tries_at next ≡ l ∷ tries_at (i ∷ next)
  pub at_handler : (i : Instr) (next : List Instr) → StandsAsInstr i next m.code →
      may_raise i.op ≡ true → (l : ℕ) (tries : List ℕ) → tries_at (i ∷ next) ≡ l ∷ tries →
      tries_at (from_handler l m.code) ≡ tries
  -- also where nothing in the body of the try can raise
  pub at_own_handler : (i : Instr) (next : List Instr) → StandsAsInstr i next m.code → (l : ℕ) →
      i.op ≡ mach.Mark (mark.Try l) → tries_at (from_handler l m.code) ≡ tries_at (i ∷ next)
  -- an exit ends no more tries than are round it
  pub at_exit : (i : Instr) (next : List Instr) → StandsAsInstr i next m.code → (l n : ℕ) →
      i.op ≡ mach.Mark (mark.Exit l n) → n ≤ length (tries_at (i ∷ next))
  -- a function is left outside its tries
  pub at_end : (i : Instr) (next : List Instr) → StandsAsInstr i next m.code → leaves i.op ≡ true →
      tries_at (i ∷ next) ≡ []

-- ---- cases

-- the indexes, from this one on, that a switch takes to a label
abbrev pub indexes_to_label : ℕ → ℕ → List ℕ → List ℕ
indexes_to_label l n [] = []
indexes_to_label l n (k ∷ labels) =
    cond (nat_eq k l) (n ∷ indexes_to_label l (1 + n) labels) (indexes_to_label l (1 + n) labels)

-- a case has the indexes for which its switch comes to it, and none where no switch does
pub record CasesAgree (m : Mach) : Type 0 where
  pub agree : (i j : Instr) → Contains m.code i → Contains m.code j →
      (labels indexes : List ℕ) (l end : ℕ) → i.op ≡ mach.Mark (mark.Switch labels) →
      j.op ≡ mach.Mark (mark.Case indexes l end) → Contains labels l →
      indexes ≡ indexes_to_label l 0 labels
  pub none : (j : Instr) → Contains m.code j → (indexes : List ℕ) (l end : ℕ) →
      j.op ≡ mach.Mark (mark.Case indexes l end) →
      ((i : Instr) → Contains m.code i → (labels : List ℕ) →
      i.op ≡ mach.Mark (mark.Switch labels) → Contains labels l → ⊥) → indexes ≡ []

-- ---- whole

pub record WellFormed (m : Mach) : Type 0 where
  -- a number identifies a register
  pub numbers : (r q : Reg) → IsRegister m r → IsRegister m q → r.number ≡ q.number → r ≡ q
  -- a parameter is made from no other register
  pub params : All (λ (r : Reg). r.origin ≡ r.number) m.params
  pub params_distinct : AreDistinct m.params
  pub instrs : All IsFormedInstruction m.code
  pub distinct : All (λ (i : Instr). AreDistinct i.results) m.code
  -- a return gives what the function is written with
  pub returns : (i : Instr) → Contains m.code i → i.op ≡ mach.Op (op.Leaving leaving.Return) →
      comps i.args ≡ results_of_type m.result
  -- each label occurs once
  pub labels_once : AllPairs (λ k l. k ≢ l) (labels_in m.code)
  pub labels_below : All (λ l. l < m.labels) (labels_in m.code)
  pub labels : LabelsStand m
  pub nested : IsNested m
  pub cases : CasesAgree m
