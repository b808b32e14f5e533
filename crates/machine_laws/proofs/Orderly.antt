-- The machine of images is orderly, and its run is that of its steps.
use Rattle.std.proofs.Common.{◌≡◌, ◌∙◌, ◌⊎◌, inl, inr, ℕ, zero, suc, Bool, true, false, cond, List, [], ◌∷◌, ◌++◌, Option, Some, None, refl, sym, ap, append-nil}
use Rattle.bs_words.specs.External.{External}
use Rattle.bs_words.specs.Observed.{Made}
use Rattle.bs_words.specs.declared.types.Ret.{Ret}
use Rattle.bs_words.specs.declared.types.Ret.TheVariants as returns
use Rattle.image_form.specs.Tables.{Tables, Func}
use Rattle.rv_machine.specs.Hart.{Hart, Placed, Next, Retired, Service, hart}
use Rattle.rv_machine.specs.Hart as hart_next
use Rattle.rv_machine.specs.FrameCalls.{has_trap_frame}
use Rattle.rv_machine.specs.Relocation.{Serviced, Goes, NoHeap, Refused}
use Rattle.rv_machine.specs.Run.{Schedule, seen, perhaps_asked, after_next, one, now_after, begun, machine_run}
use Rattle.rv_machine.specs.Services.{Running, Machine, Now, Going, Over, Stopped, machine_answered, external, after_allocation, concluded, after_collection, machine_frame_answered, frame_call, served}
use Rattle.rv_machine.specs.declared.cause.Cause.TheVariants.{BadFrame}
use Rattle.machine_laws.specs.Steps.{next_now, moments, IsFrontOf, IsOrderly}

-- ---- no call is forgotten

no_more : (made : List Made) → IsFrontOf made made
no_more made = ([], sym (append-nil made))

one_more : (made : List Made) (call : Made) → IsFrontOf made (made ++ call ∷ [])
one_more made call = (call ∷ [], refl)

answered_calls : (result : Ret) (call : Made) (answers : List ℕ) (m : Machine) → IsFrontOf m.calls (seen (machine_answered result call answers m)).calls
answered_calls returns.Unit call answers m = one_more m.calls call
answered_calls (returns.Comp c) call [] m = no_more m.calls
answered_calls (returns.Comp c) call (a ∷ answers) m = one_more m.calls call

external_calls : (o : Option External) (m : Machine) → IsFrontOf m.calls (seen (external o m)).calls
external_calls None m = no_more m.calls
external_calls (Some e) m = answered_calls e.result _ m.answers m

allocated_calls : (a : Serviced) (m : Machine) → IsFrontOf m.calls (seen (after_allocation a m)).calls
allocated_calls (Goes h) m = no_more m.calls
allocated_calls NoHeap m = no_more m.calls
allocated_calls (Refused cause) m = no_more m.calls

either_calls : (b : Bool) (made : List Made) (x y : Now) → IsFrontOf made (seen x).calls → IsFrontOf made (seen y).calls → IsFrontOf made (seen (cond b x y)).calls
either_calls true made x y p q = p
either_calls false made x y p q = q

concluded_calls : (result : Ret) (call : Made) (first value : ℕ) (answers : List ℕ) (h : Hart) (m : Machine) →
    IsFrontOf m.calls (seen (concluded result call first value answers h m)).calls
concluded_calls result call zero value answers h m = one_more m.calls call
concluded_calls result call (suc first) value answers h m =
    either_calls (has_trap_frame h) m.calls _ (Over m.calls (Stopped BadFrame)) (one_more m.calls call) (no_more m.calls)

collected_calls : (result : Ret) (call : Made) (first value : ℕ) (answers : List ℕ) (a : Serviced) (m : Machine) →
    IsFrontOf m.calls (seen (after_collection result call first value answers a m)).calls
collected_calls result call first value answers (Goes h) m = concluded_calls result call first value answers h m
collected_calls result call first value answers NoHeap m = no_more m.calls
collected_calls result call first value answers (Refused cause) m = no_more m.calls

frame_calls : (plan : List Placed → List ℕ) (result : Ret) (call : Made) (answers : List ℕ) (m : Machine) →
    IsFrontOf m.calls (seen (machine_frame_answered plan result call answers m)).calls
frame_calls plan result call [] m = no_more m.calls
frame_calls plan result call (first ∷ []) m = no_more m.calls
frame_calls plan result call (first ∷ value ∷ answers) m = collected_calls result call first value answers _ m

frame_call_calls : (plan : List Placed → List ℕ) (o : Option External) (m : Machine) → IsFrontOf m.calls (seen (frame_call plan o m)).calls
frame_call_calls plan None m = no_more m.calls
frame_call_calls plan (Some e) m = frame_calls plan e.result _ m.answers m

served_calls : (plan : ℕ → List Placed → List ℕ) (code : ℕ) (m : Machine) → IsFrontOf m.calls (seen (served plan code m)).calls
served_calls plan zero m = no_more m.calls
served_calls plan (suc zero) m = no_more m.calls
served_calls plan (suc (suc zero)) m = external_calls _ m
served_calls plan (suc (suc (suc zero))) m = allocated_calls _ m
served_calls plan (suc (suc (suc (suc zero)))) m = frame_call_calls _ _ m
served_calls plan (suc (suc (suc (suc (suc code))))) m = no_more m.calls

next_calls : (schedule : Schedule) (n : Next) (m : Machine) → IsFrontOf m.calls (seen (after_next schedule n m)).calls
next_calls schedule (Retired h) m = no_more m.calls
next_calls schedule (Service h) m = served_calls schedule.plan _ (record m { hart = h })
next_calls schedule hart_next.StackOut m = no_more m.calls
next_calls schedule (hart_next.Stopped cause) m = no_more m.calls

stays : (schedule : Schedule) (now : Now) → ((seen now).end ≡ Running) ⊎ (next_now schedule now ≡ now)
stays schedule (Going m) = inl refl
stays schedule (Over calls end) = inr refl

step_calls : (schedule : Schedule) (now : Now) → IsFrontOf (seen now).calls (seen (next_now schedule now)).calls
step_calls schedule (Going m) = next_calls schedule (hart (perhaps_asked schedule m.hart)) m
step_calls schedule (Over calls end) = no_more calls

pub machine_orderly : (schedule : Schedule) → IsOrderly Now (next_now schedule) seen
machine_orderly schedule = record { stays = λ now. stays schedule now; calls = λ now. step_calls schedule now }

-- ---- a run is its steps

over_stays : (schedule : Schedule) (m : ℕ) (now : Now) → next_now schedule now ≡ now → now ≡ moments (next_now schedule) m now
over_stays schedule zero now e = refl
over_stays schedule (suc m) now e = over_stays schedule m now e ∙ ap (moments (next_now schedule) m) (sym e)

run_steps : (schedule : Schedule) (m : ℕ) (now : Now) → now_after schedule m now ≡ moments (next_now schedule) m now
run_steps schedule zero now = refl
run_steps schedule (suc m) (Going x) = run_steps schedule m (one schedule x)
run_steps schedule (suc m) (Over calls end) = over_stays schedule (suc m) (Over calls end) refl

-- the run of the machine after m instructions is what is seen m moments after its start
pub machine_steps : (image : Tables) (row : Func) (args answers : List ℕ) (stack heap : ℕ) (schedule : Schedule) (m : ℕ) →
    seen (moments (next_now schedule) m (begun image row args answers stack heap)) ≡ machine_run image row args answers stack heap schedule m
machine_steps image row args answers stack heap schedule m = ap seen (sym (run_steps schedule m (begun image row args answers stack heap)))
