-- The text that is reported of a run of a text.
use Rattle.std.specs.Prelude.{ℕ, ◌-◌, List, ◌++◌, codes}
use Rattle.std.specs.Fmt.{decimal}
use Rattle.bs_words.specs.declared.values.Kind.{Kind}
use Rattle.bs_words.specs.declared.values.Kind.TheVariants.{BadAddress, HiddenPointer, BadValue, PointerArithmetic, PointerOrder, PartOfPointer, HeaderWrite, DivideByZero, ShiftRange, SwitchRange, BadCall}
use Rattle.cmm_meaning.specs.Run.{Outcome, Returned, Raised, Asks, More, Improper, Run}
use Rattle.rv_machine.specs.Text.{obs_text, made_text, returned_text, calls_text}

abbrev pub kind_text : Kind → List ℕ
kind_text BadAddress = codes "BadAddress"
kind_text HiddenPointer = codes "HiddenPointer"
kind_text BadValue = codes "BadValue"
kind_text PointerArithmetic = codes "PointerArithmetic"
kind_text PointerOrder = codes "PointerOrder"
kind_text PartOfPointer = codes "PartOfPointer"
kind_text HeaderWrite = codes "HeaderWrite"
kind_text DivideByZero = codes "DivideByZero"
kind_text ShiftRange = codes "ShiftRange"
kind_text SwitchRange = codes "SwitchRange"
kind_text BadCall = codes "BadCall"

abbrev pub run_outcome_text : Outcome → List ℕ
run_outcome_text (Returned value) = returned_text value
run_outcome_text (Raised value) = codes "raised " ++ obs_text value
run_outcome_text (Asks call) = codes "asks " ++ made_text call
run_outcome_text More = codes "more"
run_outcome_text (Improper kind) = codes "improper " ++ kind_text kind

-- a word and a number on a line
abbrev pub need_text : List ℕ → ℕ → List ℕ
need_text name number = name ++ (codes " " ++ (decimal number ++ codes "\n"))

-- a line for each external call that was made, and one for how the run ended
abbrev pub cmm_outcome_text : Run → List ℕ
cmm_outcome_text run = calls_text run.calls ++ (run_outcome_text run.outcome ++ codes "\n")

-- that, and then the bytes of stack and heap that the run needs, and the units of fuel that it spent of so many
abbrev pub check_text : ℕ → Run → List ℕ
check_text fuel run =
    cmm_outcome_text run
    ++ (need_text (codes "stack") run.stack_need
    ++ (need_text (codes "heap") run.heap_need ++ need_text (codes "fuel") (fuel - run.left)))
