-- A run, instruction by instruction, and the text that it has end.
use Rattle.std.proofs.Common.{◌≡◌, ℕ, zero, suc, ◌+◌, ◌-◌, ◌<◌, ◌≤◌, Bool, true, false, cond, List, [], ◌∷◌, ◌++◌, Option, Some, None, refl, ap, arith, ◌∙◌, sym, append_assoc, append-nil}
use Rattle.std.specs.Prelude.{codes}
use Rattle.bs_words.specs.External.{External}
use Rattle.bs_words.specs.Observed.{Made}
use Rattle.bs_words.specs.declared.types.Ret.{Ret}
use Rattle.bs_words.specs.declared.types.Ret.TheVariants as returns
use Rattle.rv_machine.specs.Allocation.{allocation_served}
use Rattle.rv_machine.specs.Relocation.{Serviced, Goes, NoHeap, Refused}
use Rattle.rv_machine.specs.Hart.{Hart, Placed, Next, hart, register}
use Rattle.rv_machine.specs.Hart as next
use Rattle.rv_machine.specs.Run.{Schedule, now_after, after_next, one, seen, perhaps_asked}
use Rattle.rv_machine.specs.Services.{End, Machine, Now, Going, Over, Running, Asks, StackOut, HeapOut, Stopped, after_allocation, after_collection, machine_answered, call_made, called, cleared, concluded, external, external_at, machine_frame_answered, frame_call, service, served}
use Rattle.rv_machine.specs.FrameCalls.{collected, has_trap_frame, raised}
use Rattle.rv_machine.specs.declared.cause.Cause.TheVariants.{BadFrame}
use Rattle.rv_machine.specs.Text.{calls_text, made_text, end_text, outcome_text}
use Rattle.mover_runtime.specs.Outcome.{allocation_text, asked_if, calling_none, progress_text, last_line}

-- ---- calls that were made before

abbrev pub behind : List Made → Now → Now
behind cs (Going m) = Going (record m { calls = cs ++ m.calls })
behind cs (Over calls end) = Over (cs ++ calls) end

-- a run that has made those calls
abbrev pub state : Hart → Ret → List ℕ → List Made → Machine
state h result answers calls = record { hart = h; result = result; answers = answers; calls = calls }

over_behind : (cs : List Made) (end : End) → Over cs end ≡ behind cs (Over [] end)
over_behind cs end = ap (λ (calls : List Made). Over calls end) (sym (append-nil cs))

answered_behind : (ret : Ret) (call : Made) (h : Hart) (result : Ret) (answers all : List ℕ) (cs : List Made)
    → machine_answered ret call answers (state h result all cs) ≡ behind cs (machine_answered ret call answers (state h result all []))
answered_behind returns.Unit call h result answers all cs = refl
answered_behind (returns.Comp c) call h result [] all cs = over_behind cs (Asks call)
answered_behind (returns.Comp c) call h result (a ∷ answers) all cs = refl

external_behind : (e : Option External) (h : Hart) (result : Ret) (answers : List ℕ) (cs : List Made)
    → external e (state h result answers cs) ≡ behind cs (external e (state h result answers []))
external_behind None h result answers cs = over_behind cs _
external_behind (Some e) h result answers cs = answered_behind e.result (call_made e h) h result answers answers cs

allocation_behind : (a : Serviced) (h : Hart) (result : Ret) (answers : List ℕ) (cs : List Made)
    → after_allocation a (state h result answers cs) ≡ behind cs (after_allocation a (state h result answers []))
allocation_behind (Goes g) h result answers cs = ap (λ (calls : List Made). Going (state g result answers calls)) (sym (append-nil cs))
allocation_behind NoHeap h result answers cs = over_behind cs HeapOut
allocation_behind (Refused cause) h result answers cs = over_behind cs (Stopped cause)

either_behind : (cs : List Made) (b : Bool) (x y x' y' : Now) → x ≡ behind cs x' → y ≡ behind cs y' → cond b x y ≡ behind cs (cond b x' y')
either_behind cs true x y x' y' p q = p
either_behind cs false x y x' y' p q = q

concluded_behind : (ret : Ret) (call : Made) (first value : ℕ) (left : List ℕ) (g h : Hart) (result : Ret) (all : List ℕ) (cs : List Made)
    → concluded ret call first value left g (state h result all cs) ≡ behind cs (concluded ret call first value left g (state h result all []))
concluded_behind ret call zero value left g h result all cs = refl
concluded_behind ret call (suc first) value left g h result all cs =
    either_behind cs (has_trap_frame g) (called call (raised value (cleared g)) left (state h result all cs)) (Over cs (Stopped BadFrame)) _ (Over [] (Stopped BadFrame)) refl (over_behind cs (Stopped BadFrame))

collection_behind : (ret : Ret) (call : Made) (first value : ℕ) (left : List ℕ) (a : Serviced) (h : Hart) (result : Ret) (all : List ℕ) (cs : List Made)
    → after_collection ret call first value left a (state h result all cs) ≡ behind cs (after_collection ret call first value left a (state h result all []))
collection_behind ret call first value left (Goes g) h result all cs = concluded_behind ret call first value left g h result all cs
collection_behind ret call first value left NoHeap h result all cs = over_behind cs HeapOut
collection_behind ret call first value left (Refused cause) h result all cs = over_behind cs (Stopped cause)

frame_behind : (plan : List Placed → List ℕ) (ret : Ret) (call : Made) (answers : List ℕ) (h : Hart) (result : Ret) (all : List ℕ) (cs : List Made)
    → machine_frame_answered plan ret call answers (state h result all cs) ≡ behind cs (machine_frame_answered plan ret call answers (state h result all []))
frame_behind plan ret call [] h result all cs = over_behind cs (Asks call)
frame_behind plan ret call (first ∷ []) h result all cs = over_behind cs (Asks call)
frame_behind plan ret call (first ∷ value ∷ left) h result all cs = collection_behind ret call first value left (collected plan h) h result all cs

call_behind : (plan : List Placed → List ℕ) (e : Option External) (h : Hart) (result : Ret) (answers : List ℕ) (cs : List Made)
    → frame_call plan e (state h result answers cs) ≡ behind cs (frame_call plan e (state h result answers []))
call_behind plan None h result answers cs = over_behind cs _
call_behind plan (Some e) h result answers cs = frame_behind plan e.result (call_made e h) answers h result answers cs

abbrev pub Plans : Type 0
Plans = ℕ → List Placed → List ℕ

served_behind : (plans : Plans) (n : ℕ) (h : Hart) (result : Ret) (answers : List ℕ) (cs : List Made)
    → served plans n (state h result answers cs) ≡ behind cs (served plans n (state h result answers []))
served_behind plans zero h result answers cs = over_behind cs _
served_behind plans (suc zero) h result answers cs = over_behind cs _
served_behind plans (suc (suc zero)) h result answers cs = external_behind (external_at h) h result answers cs
served_behind plans (suc (suc (suc zero))) h result answers cs = allocation_behind (allocation_served (plans h.services) h) h result answers cs
served_behind plans (suc (suc (suc (suc zero)))) h result answers cs = call_behind (plans h.services) (external_at h) h result answers cs
served_behind plans (suc (suc (suc (suc (suc n))))) h result answers cs = over_behind cs _

pub service_behind : (plans : Plans) (h : Hart) (result : Ret) (answers : List ℕ) (cs : List Made)
    → service plans (state h result answers cs) ≡ behind cs (service plans (calling_none h result answers))
service_behind plans h result answers cs = served_behind plans (register h 7) h result answers cs

-- ---- texts

pub calls_text-append : (cs ds : List Made) → calls_text (cs ++ ds) ≡ calls_text cs ++ calls_text ds
calls_text-append [] ds = refl
calls_text-append (c ∷ cs) ds =
    ap (λ (t : List ℕ). codes "call " ++ made_text c ++ codes "\n" ++ t) (calls_text-append cs ds)
    ∙ sym (append_assoc (codes "call " ++ made_text c ++ codes "\n") (calls_text cs) (calls_text ds))

outcome_behind : (cs calls : List Made) (end : End) → outcome_text (record { calls = cs ++ calls; end = end }) ≡ calls_text cs ++ outcome_text (record { calls = calls; end = end })
outcome_behind cs calls end =
    ap (λ (t : List ℕ). t ++ end_text end ++ codes "\n") (calls_text-append cs calls)
    ∙ ap (λ (t : List ℕ). t ++ codes "\n") (append_assoc (calls_text cs) (calls_text calls) (end_text end))
    ∙ append_assoc (calls_text cs) (calls_text calls ++ end_text end) (codes "\n")

pub progress_behind : (cs : List Made) (now : Now) → progress_text (behind cs now) ≡ calls_text cs ++ progress_text now
progress_behind cs (Going m) = calls_text-append cs m.calls
progress_behind cs (Over calls end) = outcome_behind cs calls end

pub outcome_line : (cs : List Made) (end : End) → outcome_text (record { calls = cs; end = end }) ≡ calls_text cs ++ last_line end
outcome_line cs end = append_assoc (calls_text cs) (end_text end) (codes "\n")

-- what is end grows
next_grows : (schedule : Schedule) (nx : Next) (m : Machine) → (rest : List ℕ) × (progress_text (after_next schedule nx m) ≡ calls_text m.calls ++ rest)
next_grows schedule (next.Retired h) m = ([], sym (append-nil (calls_text m.calls)))
next_grows schedule (next.Service h) m = (
  progress_text (service schedule.plan (calling_none h m.result m.answers)),
  ap progress_text (service_behind schedule.plan h m.result m.answers m.calls) ∙ progress_behind m.calls (service schedule.plan (calling_none h m.result m.answers)),
)
next_grows schedule next.StackOut m = (last_line StackOut, outcome_line m.calls StackOut)
next_grows schedule (next.Stopped cause) m = (last_line (Stopped cause), outcome_line m.calls (Stopped cause))

pub grows : (schedule : Schedule) (n : ℕ) (now : Now) → (rest : List ℕ) × (outcome_text (seen (now_after schedule n now)) ≡ progress_text now ++ rest)
grows schedule zero (Going m) = (last_line Running, outcome_line m.calls Running)
grows schedule zero (Over calls end) = ([], sym (append-nil (outcome_text (record { calls = calls; end = end }))))
grows schedule (suc n) (Over calls end) = ([], sym (append-nil (outcome_text (record { calls = calls; end = end }))))
grows schedule (suc n) (Going m) =
    let later = grows schedule n (one schedule m) in
    let here = next_grows schedule (hart (perhaps_asked schedule m.hart)) m in (
      here.0 ++ later.0,
      later.1 ∙ ap (λ (t : List ℕ). t ++ later.0) here.1 ∙ append_assoc (calls_text m.calls) here.0 later.0,
    )

-- ---- one instruction

one_more : (n k : ℕ) → k < n → n - k ≡ suc (n - (k + 1))
one_more n k h = omega arith

pub over_stays : (schedule : Schedule) (n : ℕ) (calls : List Made) (end : End) → now_after schedule n (Over calls end) ≡ Over calls end
over_stays schedule zero calls end = refl
over_stays schedule (suc n) calls end = refl

next_behind : (schedule : Schedule) (nx : Next) (h : Hart) (result : Ret) (answers : List ℕ) (cs : List Made)
    → after_next schedule nx (state h result answers cs) ≡ behind cs (after_next schedule nx (calling_none h result answers))
next_behind schedule (next.Retired h') h result answers cs = ap (λ (calls : List Made). Going (state h' result answers calls)) (sym (append-nil cs))
next_behind schedule (next.Service h') h result answers cs = service_behind schedule.plan h' result answers cs
next_behind schedule next.StackOut h result answers cs = over_behind cs StackOut
next_behind schedule (next.Stopped cause) h result answers cs = over_behind cs (Stopped cause)

-- what one instruction comes to, after the calls that were made before
pub advances : (schedule : Schedule) (limit k : ℕ) (asks : Bool) (h : Hart) (result : Ret) (answers : List ℕ) (cs : List Made) → k < limit
    → asks ≡ schedule.asks h.retired
    → now_after schedule (limit - k) (Going (state h result answers cs))
    ≡ now_after schedule (limit - (k + 1)) (behind cs (after_next schedule (hart (asked_if asks h)) (calling_none h result answers)))
advances schedule limit k asks h result answers cs l a =
    ap (λ (n : ℕ). now_after schedule n (Going (state h result answers cs))) (one_more limit k l)
    ∙ ap (λ (b : Bool). now_after schedule (limit - (k + 1)) (after_next schedule (hart (asked_if b h)) (state h result answers cs))) (sym a)
    ∙ ap (now_after schedule (limit - (k + 1))) (next_behind schedule (hart (asked_if asks h)) h result answers cs)

pub goes_on : (schedule : Schedule) (n : ℕ) (cs calls : List Made) (now : Now) (h : Hart) (result : Ret) (answers : List ℕ) → now ≡ Going (state h result answers calls)
    → now_after schedule n (behind cs now) ≡ now_after schedule n (Going (state h result answers (cs ++ calls)))
goes_on schedule n cs calls now h result answers e = ap (λ (x : Now). now_after schedule n (behind cs x)) e

pub ends_so : (schedule : Schedule) (n : ℕ) (cs calls : List Made) (now : Now) (end : End) → now ≡ Over calls end
    → now_after schedule n (behind cs now) ≡ Over (cs ++ calls) end
ends_so schedule n cs calls now end e = ap (λ (x : Now). now_after schedule n (behind cs x)) e ∙ over_stays schedule n (cs ++ calls) end

pub text_so : (cs calls : List Made) (now : Now) (end : End) → now ≡ Over calls end
    → calls_text cs ++ progress_text now ≡ outcome_text (record { calls = cs ++ calls; end = end })
text_so cs calls now end e = sym (progress_behind cs now) ∙ ap (λ (x : Now). progress_text (behind cs x)) e

pub text_on : (cs calls : List Made) (now : Now) (h : Hart) (result : Ret) (answers : List ℕ) → now ≡ Going (state h result answers calls)
    → calls_text cs ++ progress_text now ≡ calls_text (cs ++ calls)
text_on cs calls now h result answers e = sym (progress_behind cs now) ∙ ap (λ (x : Now). progress_text (behind cs x)) e

-- the text of the whole run begins with what was end so far
pub text_begins : (schedule : Schedule) (n : ℕ) (cs : List Made) (now : Now)
    → (rest : List ℕ) × (outcome_text (seen (now_after schedule n (behind cs now))) ≡ calls_text cs ++ (progress_text now ++ rest))
text_begins schedule n cs now =
    let all = grows schedule n (behind cs now) in
    (all.0, all.1 ∙ ap (λ (t : List ℕ). t ++ all.0) (progress_behind cs now) ∙ append_assoc (calls_text cs) (progress_text now) all.0)

pub stands_so : (schedule : Schedule) (limit k : ℕ) (m : Machine) → limit ≤ k → now_after schedule (limit - k) (Going m) ≡ Going m
stands_so schedule limit k m h = let n : limit - k ≡ 0 = omega arith in ap (λ (j : ℕ). now_after schedule j (Going m)) n

-- what an allocation service writes, where no call was made before
pub allocation_progress : (a : Serviced) (h : Hart) (result : Ret) (answers : List ℕ) → allocation_text a ≡ progress_text (after_allocation a (calling_none h result answers))
allocation_progress (Goes g) h result answers = refl
allocation_progress NoHeap h result answers = refl
allocation_progress (Refused cause) h result answers = refl
