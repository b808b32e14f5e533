-- The text of a run's outcome.
use Rattle.std.specs.Prelude.{ℕ, List, [], ◌∷◌, ◌++◌, Option, Some, None, codes}
use Rattle.std.specs.Fmt.{decimal, signed_decimal}
use Rattle.bs_words.specs.Observed.{Made}
use Rattle.bs_words.specs.Word.{signed_of}
use Rattle.bs_words.specs.declared.values.Obs.{Obs}
use Rattle.bs_words.specs.declared.values.Obs.TheVariants.{Word, Block}
use Rattle.rv_machine.specs.Run.{Seen}
use Rattle.rv_machine.specs.Services.{End, Running, Returned, Raised, Asks, StackOut, HeapOut, Stopped}
use Rattle.rv_machine.specs.declared.cause.Cause.{Cause}
use Rattle.rv_machine.specs.declared.cause.Cause.TheVariants.{BadFetch, BadWord, BadAccess, BadService, BadRequest, BadFrame, BadRoot}

-- a word by its signed reading, or a block by its serial
abbrev pub obs_text : Obs → List ℕ
obs_text (Word word) = signed_decimal (signed_of word)
obs_text (Block serial) = codes "block " ++ decimal serial

-- each observation after a space
abbrev pub shown_text : List Obs → List ℕ
shown_text [] = []
shown_text (o ∷ os) = codes " " ++ obs_text o ++ shown_text os

-- the name of an external call, and what its arguments showed
abbrev pub made_text : Made → List ℕ
made_text call = call.name ++ shown_text call.shown

-- as `call print 7`, a line for each
abbrev pub calls_text : List Made → List ℕ
calls_text [] = []
calls_text (call ∷ calls) = codes "call " ++ made_text call ++ codes "\n" ++ calls_text calls

abbrev pub cause_text : Cause → List ℕ
cause_text BadFetch = codes "BadFetch"
cause_text BadWord = codes "BadWord"
cause_text BadAccess = codes "BadAccess"
cause_text BadService = codes "BadService"
cause_text BadRequest = codes "BadRequest"
cause_text BadFrame = codes "BadFrame"
cause_text BadRoot = codes "BadRoot"

abbrev pub returned_text : Option Obs → List ℕ
returned_text None = codes "returned"
returned_text (Some o) = codes "returned " ++ obs_text o

abbrev pub end_text : End → List ℕ
end_text Running = codes "more"
end_text (Returned value) = returned_text value
end_text (Raised value) = codes "raised " ++ obs_text value
end_text (Asks call) = codes "asks " ++ made_text call
end_text StackOut = codes "stack out"
end_text HeapOut = codes "heap out"
end_text (Stopped cause) = codes "stopped " ++ cause_text cause

-- a line for each external call that was answered, and one for whether the run goes on or how it ended
abbrev pub outcome_text : Seen → List ℕ
outcome_text seen = calls_text seen.calls ++ end_text seen.end ++ codes "\n"
