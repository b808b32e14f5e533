-- How a run of the machine ends, and what is reported of it.
use Rattle.std.specs.Prelude.{◌≡◌, ℕ, ◌+◌, ◌==◌, Bool, cond, List, [], ◌++◌, Option, Some, None, Result, IfOk, drop, find, codes}
use Rattle.bs_words.specs.External.{External}
use Rattle.bs_words.specs.Observed.{Made}
use Rattle.bs_words.specs.declared.types.Ret.{Ret}
use Rattle.bs_words.specs.declared.types.Ret.TheVariants.{Unit}
use Rattle.image_form.specs.Tables.{Func}
use Rattle.rv_machine.specs.Relocation.{Serviced, Goes, NoHeap, Refused}
use Rattle.rv_machine.specs.Hart.{Hart, hart}
use Rattle.rv_machine.specs.Memory.{code_start}
use Rattle.rv_machine.specs.Run.{Seen, now_after, after_next, asked, seen}
use Rattle.rv_machine.specs.Services.{End, Machine, Now, Going, Over, machine_answered, call_made, external, external_at, machine_frame_answered, frame_call, service}
use Rattle.rv_machine.specs.Services as ends
use Rattle.rv_machine.specs.Text.{calls_text, end_text, outcome_text}
use Rattle.mover_runtime.specs.declared.outcome.RunEnd.{RunEnd}
use Rattle.mover_runtime.specs.declared.outcome.RunEnd.TheVariants.{Returned, Raised, Asks, More, StackOut, HeapOut, Stopped}
use Rattle.mover_runtime.specs.declared.schedule.Schedule.{Schedule}
use Rattle.mover_runtime.specs.Schedules.{schedule_of}

-- what is reported of whether a run goes on or how it ended
abbrev pub end_reported : End → RunEnd
end_reported ends.Running = More
end_reported (ends.Returned value) = Returned value
end_reported (ends.Raised value) = Raised value
end_reported (ends.Asks call) = Asks
end_reported ends.StackOut = StackOut
end_reported ends.HeapOut = HeapOut
end_reported (ends.Stopped cause) = Stopped cause

-- the type of what the function whose code begins at the program counter returns
abbrev pub result_at : Option Func → Ret
result_at None = Unit
result_at (Some entry) = entry.result

abbrev pub entry_result : Hart → Ret
entry_result h = result_at (find (λ (f : Func). code_start + f.offset == h.pc) h.image.funcs)

-- a run that has made no call yet
abbrev pub calling_none : Hart → Ret → List ℕ → Machine
calling_none h result answers = record { hart = h; result = result; answers = answers; calls = [] }

-- the run of a machine that has made no call yet, and has taken so many of the answers
abbrev pub run_before_calls : Hart → Ret → List ℕ → ℕ → Machine
run_before_calls h result answers taken = calling_none h result (drop taken answers)

-- the machine before its next instruction, where the mover asks or does not
abbrev pub asked_if : Bool → Hart → Hart
asked_if asks h = cond asks (asked h) h

-- the run of a machine from the state where it is, after so many instructions
abbrev pub run_of : Hart → List ℕ → Schedule → ℕ → Seen
run_of h answers schedule limit =
    seen (now_after (schedule_of schedule) limit (Going (calling_none h (entry_result h) answers)))

-- ---- what comes of an instruction, of a service and of each kind of call

abbrev pub one_now : Schedule → Bool → Hart → Ret → List ℕ → ℕ → Now
one_now schedule asks h result answers taken =
    after_next (schedule_of schedule) (hart (asked_if asks h)) (run_before_calls h result answers taken)

abbrev pub service_now : Schedule → Hart → Ret → List ℕ → ℕ → Now
service_now schedule h result answers taken =
    service (schedule_of schedule).plan (run_before_calls h result answers taken)

abbrev pub external_now : Hart → Ret → List ℕ → ℕ → Now
external_now h result answers taken = external (external_at h) (run_before_calls h result answers taken)

abbrev pub answered_now : External → Hart → Ret → List ℕ → ℕ → Now
answered_now row h result answers taken =
    machine_answered row.result (call_made row h) (drop taken answers) (run_before_calls h result answers taken)

abbrev pub frame_call_now : Schedule → Hart → Ret → List ℕ → ℕ → Now
frame_call_now schedule h result answers taken =
    frame_call ((schedule_of schedule).plan h.services) (external_at h)
    (run_before_calls h result answers taken)

abbrev pub frame_answered_now : Schedule → External → Hart → Ret → List ℕ → ℕ → Now
frame_answered_now schedule row h result answers taken =
    machine_frame_answered ((schedule_of schedule).plan h.services) row.result (call_made row h)
    (drop taken answers) (run_before_calls h result answers taken)

-- ---- the text

-- the text so far: the calls, and the last line of a run that is over
abbrev pub progress_text : Now → List ℕ
progress_text (Going m) = calls_text m.calls
progress_text (Over calls end) = outcome_text (record { calls = calls; end = end })

-- what an allocation service writes: the last line of a run that it ends
abbrev pub allocation_text : Serviced → List ℕ
allocation_text (Goes h) = []
allocation_text NoHeap = end_text ends.HeapOut ++ codes "\n"
allocation_text (Refused cause) = end_text (ends.Stopped cause) ++ codes "\n"

-- what a service reports: the run goes on, and the machine and the answers left are these; or it has
-- ended
abbrev pub ServesRun : Option RunEnd → Now → Hart → Ret → List ℕ → Type 0
ServesRun None now h result answers =
    (calls : List Made)
    × (now ≡ Going (record { hart = h; result = result; answers = answers; calls = calls }))
ServesRun (Some reported) now h result answers =
    (calls : List Made) × (end : End) × (now ≡ Over calls end) × (reported ≡ end_reported end)

-- the same of a function that may have failed to write
abbrev pub Reports : {E : Type 0} → Result (Option RunEnd) E → Now → Hart → Ret → List ℕ → Type 0
Reports result now h returns answers = IfOk result (λ end. ServesRun end now h returns answers)

-- the last line of a run
abbrev pub last_line : End → List ℕ
last_line end = end_text end ++ codes "\n"
