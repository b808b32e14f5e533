-- Each instruction that a run goes on after has retired, and no more.
use Rattle.std.proofs.Common.{◌≡◌, ℕ, zero, suc, ◌+◌, ◌-◌, ◌%◌, ◌^◌, ◌<◌, ◌≤◌, Bool, true, false, cond, List, [], ◌∷◌, Option, Some, None, refl, ap, sym, ◌∙◌, subst, arith, ◌⊎◌, inl, inr, ⊎_elim}
use Rattle.std.specs.Prelude.{◌&&◌, ◌==◌, nat_lt, nat_le}
use Rattle.bs_words.specs.External.{External}
use Rattle.bs_words.specs.Word.{add_word}
use Rattle.bs_words.specs.Observed.{Made}
use Rattle.bs_words.specs.declared.types.Ret.{Ret}
use Rattle.bs_words.specs.declared.types.Ret.TheVariants as returns
use Rattle.rv_isa.specs.Decoding.{decoded}
use Rattle.rv_isa.specs.declared.instr.Instr.{Instr}
use Rattle.rv_isa.specs.declared.instr.Instr.TheVariants.{Lui, Auipc, Jal, Jalr, Branch, Load, Store, OpImm, Shift, Op, Addiw, ShiftWord, OpWord, Ecall}
use Rattle.rv_isa.specs.declared.instr.LoadWidth.{LoadWidth}
use Rattle.rv_machine.specs.Allocation.{after_request, allocation_served, blocks_at_request, bytes_asked}
use Rattle.rv_machine.specs.FrameCalls.{collected, has_trap_frame, raised}
use Rattle.rv_machine.specs.Relocation.{Serviced, Goes, NoHeap, Refused, serve_then, are_roots, emptied, relocated, with_blocks, with_frames}
use Rattle.rv_machine.specs.Observation.{blocks_at}
use Rattle.rv_machine.specs.Arithmetic.{imm_i, imm_b, imm_j, is_taken}
use Rattle.rv_machine.specs.Frames.{Frame, frames}
use Rattle.rv_machine.specs.Hart.{Hart, Placed, Next, hart, register, executed, decoded_next, fetched, fetch, loads, stores}
use Rattle.rv_machine.specs.Hart as next
use Rattle.rv_machine.specs.Memory.{Region}
use Rattle.rv_machine.specs.Placement.{bytes_used, new_places}
use Rattle.rv_machine.specs.Run.{Schedule, after_next}
use Rattle.rv_machine.specs.Services.{Machine, Now, Going, Over, Stopped, after_allocation, after_collection, machine_answered, call_made, called, cleared, concluded, external, external_at, machine_frame_answered, frame_call, service, served}
use Rattle.rv_machine.specs.Step.{count, with_retired_counted, counted_next, next_of}
use Rattle.rv_machine.specs.Step as ended
use Rattle.rv_machine.specs.declared.step_end.StepEnd.{StepEnd}
use Rattle.rv_machine.specs.declared.step_end.StepEnd.TheVariants as step
use Rattle.alloc_service.specs.Plan.{StaysUnlessServed, Serves, both_counted, services_counted, with_counts}
use Rattle.alloc_service.specs.declared.service_end.ServiceEnd.{ServiceEnd}
use Rattle.alloc_service.specs.declared.service_end.ServiceEnd.TheVariants as service_end
use Rattle.rv_machine.specs.declared.cause.Cause.TheVariants.{BadFetch, BadFrame, BadRoot}
use Rattle.mover_runtime.specs.Outcome.{asked_if, calling_none}
use Rattle.mover_runtime.proofs.Runs.{Plans, state}

-- ---- one instruction of the hart

-- it has retired after n others, or its service is still to be done; s services have moved blocks
abbrev pub NextRetires : ℕ → ℕ → Next → Type 0
NextRetires n s (next.Retired h) = (h.retired ≡ suc n) × (h.services ≡ s)
NextRetires n s (next.Service h) = (h.retired ≡ n) × (h.services ≡ s)
NextRetires n s next.StackOut = Unit {0}
NextRetires n s (next.Stopped cause) = Unit {0}

either : (n s : ℕ) (b : Bool) (x y : Next) → NextRetires n s x → NextRetires n s y → NextRetires n s (cond b x y)
either n s true x y p q = p
either n s false x y p q = q

sets-retires : (rd value address : ℕ) (h : Hart) → NextRetires h.retired h.services (next.sets rd value address h)
sets-retires rd value address h =
    either h.retired h.services ((rd == 2) && nat_lt value h.stack_base) next.StackOut
    (next.goes_to address (record h { registers = next.with_register rd value h.registers })) tt (refl, refl)

jumps-retires : (n s target : ℕ) (nx : Next) → NextRetires n s nx → NextRetires n s (next.jumps_if_aligned target nx)
jumps-retires n s target nx r = either n s (target % 4 == 0) nx (next.Stopped BadFetch) r tt

loads-retires : (bytes : Option ℕ) (width : LoadWidth) (rd : ℕ) (h : Hart) → NextRetires h.retired h.services (loads bytes width rd h)
loads-retires None width rd h = tt
loads-retires (Some b) width rd h = sets-retires rd _ _ h

stores-retires : (memory : Option (List Region)) (h : Hart) → NextRetires h.retired h.services (stores memory h)
stores-retires None h = tt
stores-retires (Some m) h = (refl, refl)

executed-retires : (i : Instr) (h : Hart) → NextRetires h.retired h.services (executed i h)
executed-retires (Lui rd imm) h = sets-retires rd _ _ h
executed-retires (Auipc rd imm) h = sets-retires rd _ _ h
executed-retires (Jal rd offset) h =
    let target = add_word h.pc (imm_j offset) in
    jumps-retires h.retired h.services target (next.sets rd (h.pc + 4) target h) (sets-retires rd (h.pc + 4) target h)
executed-retires (Jalr rd rs1 imm) h =
    let sum = add_word (register h rs1) (imm_i imm) in
    let target = sum - sum % 2 in
    jumps-retires h.retired h.services target (next.sets rd (h.pc + 4) target h) (sets-retires rd (h.pc + 4) target h)
executed-retires (Branch condition rs1 rs2 offset) h =
    let target = add_word h.pc (imm_b offset) in
    either h.retired h.services (is_taken condition (register h rs1) (register h rs2)) (next.jumps_if_aligned target (next.goes_to target h)) (next.goes_to (h.pc + 4) h)
    (jumps-retires h.retired h.services target (next.goes_to target h) (refl, refl)) (refl, refl)
executed-retires (Load width rd rs1 imm) h = loads-retires _ width rd h
executed-retires (Store width rs1 rs2 imm) h = stores-retires _ h
executed-retires (OpImm op rd rs1 imm) h = sets-retires rd _ _ h
executed-retires (Shift op rd rs1 amount) h = sets-retires rd _ _ h
executed-retires (Op op rd rs1 rs2) h = sets-retires rd _ _ h
executed-retires (Addiw rd rs1 imm) h = sets-retires rd _ _ h
executed-retires (ShiftWord op rd rs1 amount) h = sets-retires rd _ _ h
executed-retires (OpWord op rd rs1 rs2) h = sets-retires rd _ _ h
executed-retires Ecall h = (refl, refl)

decoded-retires : (i : Option Instr) (h : Hart) → NextRetires h.retired h.services (decoded_next i h)
decoded-retires None h = tt
decoded-retires (Some i) h = executed-retires i h

fetched-retires : (word : Option ℕ) (h : Hart) → NextRetires h.retired h.services (fetched word h)
fetched-retires None h = tt
fetched-retires (Some word) h = decoded-retires (decoded word) h

pub hart-retires : (h : Hart) → NextRetires h.retired h.services (hart h)
unfolding hart
hart-retires h = fetched-retires (fetch h.image.code h.pc) h

-- ---- services

-- n instructions had retired, and s services moved blocks
abbrev Retires : ℕ → ℕ → Now → Type 0
Retires n s (Going m) = (m.hart.retired ≡ suc n) × (m.hart.services ≤ suc s)
Retires n s (Over calls end) = Unit {0}

-- a service that has moved the blocks, where so many instructions have then retired
abbrev pub Moves : ℕ → ℕ → Serviced → Type 0
Moves n s (Goes h) = (h.retired ≡ n) × (h.services ≡ suc s)
Moves n s NoHeap = Unit {0}
Moves n s (Refused cause) = Unit {0}

either_of : (n s : ℕ) (b : Bool) (x y : Serviced) → Moves n s x → Moves n s y → Moves n s (cond b x y)
either_of n s true x y p q = p
either_of n s false x y p q = q

frames-move : (plan : List Placed → List ℕ) (h : Hart) (fs : Option (List Frame)) → Moves h.retired h.services (with_frames plan h fs)
frames-move plan h None = tt
frames-move plan h (Some fs) =
    either_of h.retired h.services (are_roots h fs) (Goes (relocated (new_places h.heap h.services h.blocks (plan h.blocks)) fs h)) (Refused BadRoot) (refl, refl) tt

blocks-move : (plan : List Placed → List ℕ) (h : Hart) (blocks : Option (List Placed)) → Moves h.retired h.services (with_blocks plan h blocks)
blocks-move plan h None = tt
blocks-move plan h (Some blocks) =
    let g = record h { blocks = blocks } in
    either_of h.retired h.services (nat_le (bytes_used blocks) h.heap) (with_frames plan g (frames g)) NoHeap (frames-move plan g (frames g)) tt

request-moves : (n s bytes : ℕ) (came : Serviced) → Moves n s came → Moves (suc n) s (serve_then (after_request bytes) came)
request-moves n s bytes (Goes h) m = (ap suc m.0, m.1)
request-moves n s bytes NoHeap m = tt
request-moves n s bytes (Refused cause) m = tt

empty-moves : (n s : ℕ) (came : Serviced) → Moves n s came → Moves n s (serve_then (λ g. Goes (emptied 0 g)) came)
empty-moves n s (Goes h) m = m
empty-moves n s NoHeap m = tt
empty-moves n s (Refused cause) m = tt

pub allocated-moves : (plan : List Placed → List ℕ) (h : Hart) → Moves (suc h.retired) h.services (allocation_served plan h)
unfolding allocation_served
allocated-moves plan h = request-moves h.retired h.services (bytes_asked h) (with_blocks plan h (blocks_at_request h)) (blocks-move plan h (blocks_at_request h))

pub collected-moves : (plan : List Placed → List ℕ) (h : Hart) → Moves h.retired h.services (collected plan h)
collected-moves plan h = empty-moves h.retired h.services (with_blocks plan h (blocks_at h (register h 26))) (blocks-move plan h (blocks_at h (register h 26)))

allocation-retires : (n s : ℕ) (came : Serviced) (m : Machine) → Moves (suc n) s came → Retires n s (after_allocation came m)
allocation-retires n s (Goes h) m r = (r.0, omega (arith, r.1))
allocation-retires n s NoHeap m r = tt
allocation-retires n s (Refused cause) m r = tt

answered-retires : (ret : Ret) (call : Made) (answers : List ℕ) (m : Machine) → Retires m.hart.retired m.hart.services (machine_answered ret call answers m)
answered-retires returns.Unit call answers m = (refl, omega arith)
answered-retires (returns.Comp c) call [] m = tt
answered-retires (returns.Comp c) call (a ∷ answers) m = (refl, omega arith)

external-retires : (e : Option External) (m : Machine) → Retires m.hart.retired m.hart.services (external e m)
external-retires None m = tt
external-retires (Some e) m = answered-retires e.result (call_made e m.hart) m.answers m

either_now : (n s : ℕ) (b : Bool) (x y : Now) → Retires n s x → Retires n s y → Retires n s (cond b x y)
either_now n s true x y p q = p
either_now n s false x y p q = q

concluded-retires : (n s : ℕ) (ret : Ret) (call : Made) (first value : ℕ) (answers : List ℕ) (h : Hart) (m : Machine) → h.retired ≡ n → h.services ≡ suc s → Retires n s (concluded ret call first value answers h m)
concluded-retires n s ret call zero value answers h m r t = (ap suc r, omega (arith, t))
concluded-retires n s ret call (suc first) value answers h m r t =
    either_now n s (has_trap_frame h) (called call (raised value (cleared h)) answers m) (Over m.calls (Stopped BadFrame)) (ap suc r, omega (arith, t)) tt

collection-retires : (n s : ℕ) (ret : Ret) (call : Made) (first value : ℕ) (answers : List ℕ) (came : Serviced) (m : Machine) → Moves n s came → Retires n s (after_collection ret call first value answers came m)
collection-retires n s ret call first value answers (Goes h) m r = concluded-retires n s ret call first value answers h m r.0 r.1
collection-retires n s ret call first value answers NoHeap m r = tt
collection-retires n s ret call first value answers (Refused cause) m r = tt

frame-retires : (plan : List Placed → List ℕ) (ret : Ret) (call : Made) (answers : List ℕ) (m : Machine) → Retires m.hart.retired m.hart.services (machine_frame_answered plan ret call answers m)
frame-retires plan ret call [] m = tt
frame-retires plan ret call (first ∷ []) m = tt
frame-retires plan ret call (first ∷ value ∷ answers) m =
    collection-retires m.hart.retired m.hart.services ret call first value answers (collected plan m.hart) m (collected-moves plan m.hart)

call-retires : (plan : List Placed → List ℕ) (e : Option External) (m : Machine) → Retires m.hart.retired m.hart.services (frame_call plan e m)
call-retires plan None m = tt
call-retires plan (Some e) m = frame-retires plan e.result (call_made e m.hart) m.answers m

served-retires : (plans : Plans) (n : ℕ) (m : Machine) → Retires m.hart.retired m.hart.services (served plans n m)
served-retires plans zero m = tt
served-retires plans (suc zero) m = tt
served-retires plans (suc (suc zero)) m = external-retires (external_at m.hart) m
served-retires plans (suc (suc (suc zero))) m =
    allocation-retires m.hart.retired m.hart.services (allocation_served (plans m.hart.services) m.hart) m (allocated-moves (plans m.hart.services) m.hart)
served-retires plans (suc (suc (suc (suc zero)))) m = call-retires (plans m.hart.services) (external_at m.hart) m
served-retires plans (suc (suc (suc (suc (suc n))))) m = tt

next-retires : (schedule : Schedule) (n s : ℕ) (nx : Next) (m : Machine) → NextRetires n s nx → Retires n s (after_next schedule nx m)
next-retires schedule n s (next.Retired h) m r = (r.0, omega (arith, r.1))
next-retires schedule n s (next.Service h) m r =
    let P : ℕ → ℕ → Type 0 = λ k l. Retires k l (service schedule.plan (record m { hart = h })) in
    let q : P h.retired h.services = served-retires schedule.plan (register h 7) (record m { hart = h }) in
    subst (λ k. P k s) r.0 (subst (λ l. P h.retired l) r.1 q)
next-retires schedule n s next.StackOut m r = tt
next-retires schedule n s (next.Stopped cause) m r = tt

-- ---- an instruction with its ask and its service

asks-keep : (b : Bool) (h : Hart) → ((asked_if b h).retired ≡ h.retired) × ((asked_if b h).services ≡ h.services)
asks-keep true h = (refl, refl)
asks-keep false h = (refl, refl)

pub retires : (schedule : Schedule) (b : Bool) (h new : Hart) (result : Ret) (answers left : List ℕ) (calls : List Made)
    → after_next schedule (hart (asked_if b h)) (calling_none h result answers) ≡ Going (state new result left calls)
    → (new.retired ≡ suc h.retired) × (new.services ≤ suc h.services)
retires schedule b h new result answers left calls e =
    let P : Now → Type 0 = λ now. Retires (asked_if b h).retired (asked_if b h).services now in
    let r : (new.retired ≡ suc (asked_if b h).retired) × (new.services ≤ suc (asked_if b h).services) =
    subst P e (next-retires schedule (asked_if b h).retired (asked_if b h).services (hart (asked_if b h)) (calling_none h result answers) (hart-retires (asked_if b h))) in
    let k = asks-keep b h in
    (r.0 ∙ ap suc k.0, omega (arith, r.1, k.1))

-- ---- counts that are not at their ends

pub count_small : (n : ℕ) → n < 2 ^ 64 → count n ≡ n
count_small n small = omega arith

pub counted_is : (h : Hart) → h.retired < 2 ^ 64 → with_retired_counted h ≡ h
counted_is h small = ap (λ (n : ℕ). record h { retired = n }) (count_small h.retired small)

next_counted : (n s : ℕ) (nx : Next) → n < 2 ^ 64 - 1 → NextRetires n s nx → counted_next nx ≡ nx
next_counted n s (next.Retired h) small r = ap next.Retired (counted_is h (omega (arith, r.0, small)))
next_counted n s (next.Service h) small r = refl
next_counted n s next.StackOut small r = refl
next_counted n s (next.Stopped cause) small r = refl

pub hart_counted : (h : Hart) → h.retired < 2 ^ 64 - 1 → counted_next (hart h) ≡ hart h
hart_counted h small = next_counted h.retired h.services (hart h) small (hart-retires h)

both_of : (n s : ℕ) (came : Serviced) → n < 2 ^ 64 - 1 → s < 2 ^ 64 - 1 → Moves (suc n) s came → with_counts both_counted came ≡ came
both_of n s (Goes h) a b m =
    ap (λ (k : ℕ). Goes (record h { retired = k; services = count h.services })) (count_small h.retired (omega (arith, m.0, a)))
    ∙ ap (λ (k : ℕ). Goes (record h { services = k })) (count_small h.services (omega (arith, m.1, b)))
both_of n s NoHeap a b m = refl
both_of n s (Refused cause) a b m = refl

services_of : (n s : ℕ) (came : Serviced) → s < 2 ^ 64 - 1 → Moves n s came → with_counts services_counted came ≡ came
services_of n s (Goes h) b m = ap (λ (k : ℕ). Goes (record h { services = k })) (count_small h.services (omega (arith, m.1, b)))
services_of n s NoHeap b m = refl
services_of n s (Refused cause) b m = refl

pub allocated_counted : (plan : List Placed → List ℕ) (h : Hart) → h.retired < 2 ^ 64 - 1 → h.services < 2 ^ 64 - 1 → with_counts both_counted (allocation_served plan h) ≡ allocation_served plan h
allocated_counted plan h a b = both_of h.retired h.services (allocation_served plan h) a b (allocated-moves plan h)

pub collected_counted : (plan : List Placed → List ℕ) (h : Hart) → h.services < 2 ^ 64 - 1 → with_counts services_counted (collected plan h) ≡ collected plan h
collected_counted plan h b = services_of h.retired h.services (collected plan h) b (collected-moves plan h)

-- ---- what the code reports

-- a step retires one instruction at most
pub step-most : (end : StepEnd) (h new : Hart) → next_of end new ≡ hart h → ended.StaysUnlessRetired end h new → new.retired ≤ suc h.retired
step-most end h new e k = by_end end (subst (NextRetires h.retired h.services) (sym e) (hart-retires h)) k
  where
    by_end : (end : StepEnd) → NextRetires h.retired h.services (next_of end new) → ended.StaysUnlessRetired end h new → new.retired ≤ suc h.retired
    by_end step.Retired r k = omega (arith, r.0)
    by_end step.Service r k = omega (arith, r.0)
    by_end step.StackOut r k = let same : new.retired ≡ h.retired = ap (λ (g : Hart). g.retired) k in omega (arith, same)
    by_end (step.Stopped cause) r k = let same : new.retired ≡ h.retired = ap (λ (g : Hart). g.retired) k in omega (arith, same)

-- a service that goes on has retired so many, and another one none
service-count : (n s : ℕ) (end : ServiceEnd) (came : Serviced) (h new : Hart) → Moves n s came → Serves end came new → StaysUnlessServed end h new →
    (new.retired ≡ n) ⊎ (new.retired ≡ h.retired)
service-count n s service_end.Goes came h new m e k = let r : Moves n s (Goes new) = subst (Moves n s) e m in inl r.0
service-count n s service_end.HeapOut came h new m e k = inr (ap (λ (g : Hart). g.retired) k)
service-count n s (service_end.Stopped cause) came h new m e k = inr (ap (λ (g : Hart). g.retired) k)

pub allocated-most : (plan : List Placed → List ℕ) (end : ServiceEnd) (h new : Hart) → Serves end (allocation_served plan h) new → StaysUnlessServed end h new →
    new.retired ≤ suc h.retired
allocated-most plan end h new e k =
    ⊎_elim (λ r. omega (arith, r)) (λ r. omega (arith, r)) (service-count (suc h.retired) h.services end (allocation_served plan h) h new (allocated-moves plan h) e k)

pub collected-none : (plan : List Placed → List ℕ) (end : ServiceEnd) (h new : Hart) → Serves end (collected plan h) new → StaysUnlessServed end h new →
    new.retired ≡ h.retired
collected-none plan end h new e k =
    ⊎_elim (λ r. r) (λ r. r) (service-count h.retired h.services end (collected plan h) h new (collected-moves plan h) e k)
