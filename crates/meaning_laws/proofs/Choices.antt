-- What holds of the body of each case of a switch holds of the one that is chosen; and so it is with handlers.
use Rattle.std.proofs.Common.{ℕ, Bool, true, false, cond, not, ◌&&◌, List, [], ◌∷◌, Option, Some, None}
use Rattle.cmm_tree.specs.Tree.{LabelTree, same_label, is_bare}
use Rattle.cmm_meaning.specs.Choices.{Ready, ready_for, Chosen, is_named, last_naming, first_case, case_for}
use Rattle.meaning_laws.specs.Interaction.{Operand}

-- ---- cases

pub data EachCase (P : Operand → Type 0) : List (Chosen Operand) → Type 0 where
  no_case : EachCase P []
  a_case : {a : Chosen Operand} {cases : List (Chosen Operand)} → P a.body → EachCase P cases → EachCase P (a ∷ cases)

pub data OneCase (P : Operand → Type 0) : Option (Chosen Operand) → Type 0 where
  no_chosen : OneCase P None
  a_chosen : {a : Chosen Operand} → P a.body → OneCase P (Some a)

chosen_cond : {P : Operand → Type 0} (t : Bool) (a : Chosen Operand) {o : Option (Chosen Operand)} → P a.body → OneCase P o → OneCase P (cond t (Some a) o)
chosen_cond true a p q = a_chosen p
chosen_cond false a p q = q

naming_holds : {P : Operand → Type 0} {cases : List (Chosen Operand)} (k : ℕ) {o : Option (Chosen Operand)} → EachCase P cases → OneCase P o → OneCase P (last_naming cases k o)
naming_holds k no_case q = q
naming_holds {P = P} k (a_case {a} p l) q = naming_holds k l (chosen_cond {P = P} (is_named a.indexes k) a p q)

first_holds : {P : Operand → Type 0} {cases : List (Chosen Operand)} → EachCase P cases → OneCase P (first_case cases)
first_holds no_case = no_chosen
first_holds (a_case p l) = a_chosen p

pub case_holds : {P : Operand → Type 0} {cases : List (Chosen Operand)} (k : ℕ) → EachCase P cases → OneCase P (case_for cases k)
case_holds k l = naming_holds k l (first_holds l)

-- ---- handlers

pub data EachHandler (P : Operand → Type 0) : List (Ready Operand) → Type 0 where
  no_handler : EachHandler P []
  a_handler : {a : Ready Operand} {handlers : List (Ready Operand)} → P a.body → EachHandler P handlers → EachHandler P (a ∷ handlers)

pub data OneHandler (P : Operand → Type 0) : Option (Ready Operand) → Type 0 where
  no_ready : OneHandler P None
  a_ready : {a : Ready Operand} → P a.body → OneHandler P (Some a)

ready_cond : {P : Operand → Type 0} (t : Bool) (a : Ready Operand) {o : Option (Ready Operand)} → P a.body → OneHandler P o → OneHandler P (cond t (Some a) o)
ready_cond true a p q = a_ready p
ready_cond false a p q = q

pub ready_holds : {P : Operand → Type 0} (within : Bool) (label : LabelTree) {handlers : List (Ready Operand)} → EachHandler P handlers →
    OneHandler P (ready_for within label handlers)
ready_holds within label no_handler = no_ready
ready_holds {P = P} within label (a_handler {a} p l) =
    ready_cond {P = P} (same_label label a.label && not (is_bare label && within)) a p (ready_holds within label l)

-- ---- where more holds

pub more_cases : {P Q : Operand → Type 0} → ((o : Operand) → P o → Q o) → {cases : List (Chosen Operand)} → EachCase P cases → EachCase Q cases
more_cases more no_case = no_case
more_cases more (a_case {a} p l) = a_case (more a.body p) (more_cases more l)

pub more_handlers : {P Q : Operand → Type 0} → ((o : Operand) → P o → Q o) → {handlers : List (Ready Operand)} → EachHandler P handlers → EachHandler Q handlers
more_handlers more no_handler = no_handler
more_handlers more (a_handler {a} p l) = a_handler (more a.body p) (more_handlers more l)
