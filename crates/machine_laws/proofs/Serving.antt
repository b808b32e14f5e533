-- The services keep a machine sound.
use Rattle.std.proofs.Common.{◌≡◌, ◌≢◌, ℕ, zero, suc, ◌+◌, ◌-◌, ◌^◌, ◌<◌, ◌≤◌, Bool, true, false, cond, nat_le, List, [], ◌∷◌, ◌++◌, reverse, Option, Some, None, option_map, refl, arith, ◌∙◌, subst}
use Rattle.std.specs.Prelude.{slice_index}
use Rattle.std.specs.List.{AllByRecursion}
use Rattle.std.proofs.lemmas.Bool.{and_parts, leb-true}
use Rattle.bs_words.specs.External.{External}
use Rattle.bs_words.specs.Observed.{Made}
use Rattle.bs_words.specs.declared.types.Ret.{Ret}
use Rattle.bs_words.specs.declared.types.Ret.TheVariants as returns
use Rattle.rv_isa.specs.Registers.{a0, s1, s10, sp}
use Rattle.rv_machine.specs.Allocation.{after_request, allocation_served, blocks_at_request, bytes_asked, is_request, young_from}
use Rattle.rv_machine.specs.FrameCalls.{collected, has_trap_frame, raised, with_answer}
use Rattle.rv_machine.specs.Frames.{Frame, frames, registers_of, slots_of}
use Rattle.rv_machine.specs.Hart.{Hart, Next, Retired, Service, Placed, hart, register, with_register}
use Rattle.rv_machine.specs.Hart as next
use Rattle.rv_machine.specs.Memory.{memory_word, write}
use Rattle.rv_machine.specs.Moving.{redirected_registers, rewritten}
use Rattle.rv_machine.specs.Observation.{blocks_at, young_blocks, young_top}
use Rattle.rv_machine.specs.Placement.{are_apart, bytes_used, new_places}
use Rattle.rv_machine.specs.Places.{domain_start, filler, limit_at_rest, stack_end}
use Rattle.rv_machine.specs.Relocation.{Serviced, Goes, NoHeap, Refused, serve_then, are_roots, emptied, relocated, root_addresses, with_blocks, with_frames}
use Rattle.rv_machine.specs.Run.{Schedule, now_after, after_next, one, perhaps_asked}
use Rattle.rv_machine.specs.Services.{Machine, Now, Going, Over, Stopped, after_allocation, after_collection, machine_answered, cleared, concluded, destroyed, external, external_at, filled_registers, machine_frame_answered, frame_call, returned_with, served}
use Rattle.rv_machine.specs.Sound.{AllWords, AreRegisters, IsSound, IsSoundMachine, IsSoundNext, IsSoundNow, IsSoundService}
use Rattle.rv_machine.specs.Space.{HasCells, IsHeapBlock}
use Rattle.rv_machine.specs.declared.cause.Cause.TheVariants.{BadFrame, BadRoot}
use Rattle.machine_laws.proofs.Apart.{all-append, all-reverse, all_of, placed_anew, rewritten_word, taken_apart}
use Rattle.machine_laws.proofs.Chain.{young_cells, young_chain}
use Rattle.machine_laws.proofs.Memory.{has_moved, has_write, word_below}
use Rattle.machine_laws.proofs.Stepping.{hart_sound, moved_on, past_ecall_sound, perhaps_asked_sound, with_new_memory, with_new_registers}
use Rattle.machine_laws.proofs.Words.{other_register, with_registers}

-- ---- the blocks that a service finds

old_cells : (h : Hart) → IsSound h → AllByRecursion HasCells h.blocks
old_cells h s = all_of (IsHeapBlock h.heap) HasCells (λ b k. k.some) h.blocks s.heap.each

-- all blocks have cells and are apart, wherever the young ones begin
pub record AreFound (bs : List Placed) : Type 0 where
  pub cells : AllByRecursion HasCells bs
  pub apart : are_apart bs ≡ true

pub blocks_found : (h : Hart) (from : ℕ) (bs : List Placed) → IsSound h → blocks_at h from ≡ Some bs → AreFound bs
blocks_found h from bs s e = by_case (young_blocks h.memory from) refl e
  where
    by_case :
        (o : Option (List Placed)) → young_blocks h.memory from ≡ o →
        option_map (λ young. h.blocks ++ reverse young) o ≡ Some bs → AreFound bs
    by_case None y e = absurd (cc)
    by_case (Some young) y e =
        let same : h.blocks ++ reverse young ≡ bs = cc in
        let chain = young_chain h.memory from young y in
        subst AreFound same (record {
          cells = all-append HasCells h.blocks (reverse young) (old_cells h s) (all-reverse HasCells young (young_cells young chain.each));
          apart = taken_apart h.heap from h.blocks young s.heap.most s.heap.each s.apart chain;
        })

-- ---- the move

redirected_are :
    (f : ℕ → ℕ) (old rs registers : List ℕ) → ((w : ℕ) → w < 2 ^ 64 → f w < 2 ^ 64) → AllWords old → AreRegisters registers →
    AreRegisters (redirected_registers f old rs registers)
redirected_are f old [] registers small words are = are
redirected_are f old (r ∷ rs) registers small words are =
    redirected_are f old rs (with_register r (f (slice_index old r)) registers) small words
    (with_registers registers r (f (slice_index old r)) are (small (slice_index old r) (words r)))

-- the hart with all blocks in its table, after they have moved
relocated_sound :
    (plan : List Placed → List ℕ) (h : Hart) (blocks : List Placed) (fs : List Frame) → IsSound h → AllByRecursion HasCells blocks →
    bytes_used blocks ≤ h.heap →
    IsSound (relocated (new_places h.heap h.services blocks (plan blocks)) fs (record h { blocks = blocks }))
relocated_sound plan h blocks fs s cells fits =
    let news = new_places h.heap h.services blocks (plan blocks) in
    let anew = placed_anew h.heap h.services blocks (plan blocks) cells fits in
    let bytes = anew.bytes in
    record {
      image = s.image;
      registers = redirected_are (rewritten blocks news) h.registers (registers_of fs) h.registers
          (λ w small. rewritten_word h.heap blocks news w s.heap.most anew.kept small) s.registers.words s.registers;
      memory = has_moved _ blocks news h.memory (slots_of fs ++ root_addresses h.image) s.memory;
      stack = s.stack;
      heap = record { aligned = s.heap.aligned; most = s.heap.most; each = anew.kept; fits = omega (arith, fits, bytes) };
      apart = anew.apart;
    }

frames_sound :
    (plan : List Placed → List ℕ) (h : Hart) (blocks : List Placed) (o : Option (List Frame)) → IsSound h → AllByRecursion HasCells blocks →
    bytes_used blocks ≤ h.heap → IsSoundService (with_frames plan (record h { blocks = blocks }) o)
frames_sound plan h blocks None s cells fits = tt
frames_sound plan h blocks (Some fs) s cells fits = by_test (are_roots (record h { blocks = blocks }) fs)
  where
    by_test :
        (t : Bool) →
        IsSoundService (cond t (Goes (relocated (new_places h.heap h.services blocks (plan blocks)) fs (record h { blocks = blocks }))) (Refused BadRoot))
    by_test true = relocated_sound plan h blocks fs s cells fits
    by_test false = tt

blocks_sound :
    (plan : List Placed → List ℕ) (h : Hart) (o : Option (List Placed)) → IsSound h →
    ((bs : List Placed) → o ≡ Some bs → AllByRecursion HasCells bs) → IsSoundService (with_blocks plan h o)
blocks_sound plan h None s found = tt
blocks_sound plan h (Some blocks) s found = by_test (nat_le (bytes_used blocks) h.heap) refl
  where
    by_test :
        (t : Bool) → nat_le (bytes_used blocks) h.heap ≡ t →
        IsSoundService (cond t (with_frames plan (record h { blocks = blocks }) (frames (record h { blocks = blocks }))) NoHeap)
    by_test true e = frames_sound plan h blocks (frames (record h { blocks = blocks })) s (found blocks refl) (leb-true (bytes_used blocks) h.heap e)
    by_test false e = tt

emptied_sound : (bytes : ℕ) (h : Hart) → IsSound h → IsSound (emptied bytes h)
emptied_sound bytes h s =
    with_new_memory (record h { registers = with_register s10 (young_top - bytes) h.registers }) (write h.memory domain_start limit_at_rest)
    (with_new_registers h (with_register s10 (young_top - bytes) h.registers) s
    (with_registers h.registers s10 (young_top - bytes) s.registers (omega arith)))
    (has_write _ h.memory domain_start limit_at_rest s.memory)

then_sound :
    (f : Hart → Serviced) (came : Serviced) → IsSoundService came → ((h : Hart) → IsSound h → IsSoundService (f h)) →
    IsSoundService (serve_then f came)
then_sound f (Goes h) s next = next h s
then_sound f NoHeap s next = tt
then_sound f (Refused cause) s next = tt

-- ---- allocation

requested_cells : (h : Hart) (bs : List Placed) → IsSound h → blocks_at_request h ≡ Some bs → AllByRecursion HasCells bs
requested_cells h bs s e = by_test (is_request (bytes_asked h)) e
  where
    by_test : (t : Bool) → cond t (blocks_at h (young_from h)) None ≡ Some bs → AllByRecursion HasCells bs
    by_test true e = (blocks_found h (young_from h) bs s e).cells
    by_test false e = absurd (cc)

pub allocated_sound : (plan : List Placed → List ℕ) (h : Hart) → IsSound h → IsSoundService (allocation_served plan h)
unfolding allocation_served
allocated_sound plan h s =
    then_sound (after_request (bytes_asked h)) (with_blocks plan h (blocks_at_request h))
    (blocks_sound plan h (blocks_at_request h) s (λ bs e. requested_cells h bs s e))
    (λ g sound. past_ecall_sound (emptied (bytes_asked h) g) (emptied_sound (bytes_asked h) g sound))

-- ---- external calls

pub filled_are : (rs registers : List ℕ) → AreRegisters registers → AreRegisters (filled_registers rs registers)
filled_are [] registers are = are
filled_are (r ∷ rs) registers are = filled_are rs (with_register r filler registers) (with_registers registers r filler are (omega arith))

called_sound : (h : Hart) (registers answers : List ℕ) (call : Made) (m : Machine) → IsSound h → AreRegisters registers → AllWords answers →
    IsSoundMachine (record m { hart = returned_with registers h; answers = answers; calls = m.calls ++ call ∷ [] })
called_sound h registers answers call m s are words = record {
  hart = past_ecall_sound (record h { registers = registers }) (with_new_registers h registers s are);
  answers = words;
}

answered_sound : (result : Ret) (call : Made) (answers : List ℕ) (m : Machine) → IsSound m.hart → AllWords answers → IsSoundNow (machine_answered result call answers m)
answered_sound returns.Unit call answers m s words =
    called_sound m.hart (filled_registers destroyed m.hart.registers) answers call m s (filled_are destroyed m.hart.registers s.registers) words
answered_sound (returns.Comp c) call [] m s words = tt
answered_sound (returns.Comp c) call (a ∷ answers) m s words =
    let cleared = filled_are destroyed m.hart.registers s.registers in
    called_sound m.hart (with_register a0 a (filled_registers destroyed m.hart.registers)) answers call m s
    (with_registers (filled_registers destroyed m.hart.registers) a0 a cleared (words 0)) (λ i. words (suc i))

external_sound : (o : Option External) (m : Machine) → IsSoundMachine m → IsSoundNow (external o m)
external_sound None m s = tt
external_sound (Some e) m s = answered_sound e.result _ m.answers m s.hart s.answers

-- ---- frame calls

pub collected_sound : (plan : List Placed → List ℕ) (h : Hart) → IsSound h → IsSoundService (collected plan h)
collected_sound plan h s =
    then_sound (λ g. Goes (emptied 0 g)) (with_blocks plan h (blocks_at h (register h s10)))
    (blocks_sound plan h (blocks_at h (register h s10)) s (λ bs e. (blocks_found h (register h s10) bs s e).cells))
    (λ g sound. emptied_sound 0 g sound)

with_answer_are : (result : Ret) (answer : ℕ) (registers : List ℕ) → answer < 2 ^ 64 → AreRegisters registers → AreRegisters (with_answer result answer registers)
with_answer_are returns.Unit answer registers small are = are
with_answer_are (returns.Comp c) answer registers small are = with_registers registers a0 answer are small

raised_sound : (value : ℕ) (h : Hart) → value < 2 ^ 64 → register h s1 + 16 ≤ stack_end → IsSound h → IsSound (raised value h)
raised_sound value h small low s =
    let at = register h s1 in
    let first = with_register sp (at + 16) h.registers in
    let second = with_register s1 (memory_word h.memory (at + 8)) first in
    moved_on (record h { registers = with_register a0 value second }) (memory_word h.memory at) (suc h.retired)
    (with_new_registers h (with_register a0 value second) s
    (with_registers second a0 value
    (with_registers first s1 (memory_word h.memory (at + 8)) (with_registers h.registers sp (at + 16) s.registers (omega (arith, low))) (word_below h.memory (at + 8))) small))

-- a register that is not filled stays
pub not_filled : (rs registers : List ℕ) (r : ℕ) → AllByRecursion (λ k. k ≢ r) rs → slice_index (filled_registers rs registers) r ≡ slice_index registers r
not_filled [] registers r others = refl
not_filled (k ∷ rs) registers r others = not_filled rs (with_register k filler registers) r others.1 ∙ other_register registers k r filler others.0

-- a frame call destroys other registers than s1
trap_kept : (h : Hart) → register (cleared h) s1 ≡ register h s1
trap_kept h =
    not_filled destroyed h.registers 9
    (λ e. omega arith, (λ e. omega arith, (λ e. omega arith, (λ e. omega arith, (λ e. omega arith, (λ e. omega arith, (λ e. omega arith, (λ e. omega arith, (λ e. omega arith, (λ e. omega arith, (λ e. omega arith, (λ e. omega arith, tt))))))))))))

concluded_sound : (result : Ret) (call : Made) (first value : ℕ) (answers : List ℕ) (h : Hart) (m : Machine) →
    IsSound h → value < 2 ^ 64 → AllWords answers → IsSoundNow (concluded result call first value answers h m)
concluded_sound result call zero value answers h m s small words =
    called_sound h (with_answer result value (filled_registers destroyed h.registers)) answers call m s
    (with_answer_are result value (filled_registers destroyed h.registers) small (filled_are destroyed h.registers s.registers)) words
concluded_sound result call (suc first) value answers h m s small words = by_test (has_trap_frame h) refl
  where
    by_test :
        (t : Bool) → has_trap_frame h ≡ t →
        IsSoundNow (cond t (Going (record m { hart = raised value (cleared h); answers = answers; calls = m.calls ++ call ∷ [] })) (Over m.calls (Stopped BadFrame)))
    by_test true e =
        let p = and_parts _ (nat_le (register h s1 + 16) stack_end) e in
        let low = leb-true (register h s1 + 16) stack_end p.1 in
        let same = trap_kept h in
        record {
          hart = raised_sound value (cleared h) small (omega (arith, low, same))
              (with_new_registers h (filled_registers destroyed h.registers) s (filled_are destroyed h.registers s.registers));
          answers = words;
        }
    by_test false e = tt

collection_sound : (result : Ret) (call : Made) (first value : ℕ) (answers : List ℕ) (came : Serviced) (m : Machine) →
    IsSoundService came → value < 2 ^ 64 → AllWords answers → IsSoundNow (after_collection result call first value answers came m)
collection_sound result call first value answers (Goes h) m s small words = concluded_sound result call first value answers h m s small words
collection_sound result call first value answers NoHeap m s small words = tt
collection_sound result call first value answers (Refused cause) m s small words = tt

frame_answered_sound : (plan : List Placed → List ℕ) (result : Ret) (call : Made) (answers : List ℕ) (m : Machine) →
    IsSound m.hart → AllWords answers → IsSoundNow (machine_frame_answered plan result call answers m)
frame_answered_sound plan result call [] m s words = tt
frame_answered_sound plan result call (first ∷ []) m s words = tt
frame_answered_sound plan result call (first ∷ value ∷ answers) m s words =
    collection_sound result call first value answers (collected plan m.hart) m (collected_sound plan m.hart s) (words 1) (λ i. words (suc (suc i)))

frame_call_sound : (plan : List Placed → List ℕ) (o : Option External) (m : Machine) → IsSoundMachine m → IsSoundNow (frame_call plan o m)
frame_call_sound plan None m s = tt
frame_call_sound plan (Some e) m s = frame_answered_sound plan e.result _ m.answers m s.hart s.answers

-- ---- each service, and each step of a run

allocation_sound : (came : Serviced) (m : Machine) → IsSoundService came → IsSoundMachine m → IsSoundNow (after_allocation came m)
allocation_sound (Goes h) m c s = record { hart = c; answers = s.answers }
allocation_sound NoHeap m c s = tt
allocation_sound (Refused cause) m c s = tt

pub served_sound : (plan : ℕ → List Placed → List ℕ) (code : ℕ) (m : Machine) → IsSoundMachine m → IsSoundNow (served plan code m)
served_sound plan zero m s = tt
served_sound plan (suc zero) m s = tt
served_sound plan (suc (suc zero)) m s = external_sound (external_at m.hart) m s
served_sound plan (suc (suc (suc zero))) m s =
    allocation_sound (allocation_served (plan m.hart.services) m.hart) m (allocated_sound (plan m.hart.services) m.hart s.hart) s
served_sound plan (suc (suc (suc (suc zero)))) m s = frame_call_sound (plan m.hart.services) (external_at m.hart) m s
served_sound plan (suc (suc (suc (suc (suc code))))) m s = tt

next_sound : (schedule : Schedule) (n : Next) (m : Machine) → IsSoundNext n → AllWords m.answers → IsSoundNow (after_next schedule n m)
next_sound schedule (Retired h) m s words = record { hart = s; answers = words }
next_sound schedule (Service h) m s words = served_sound schedule.plan _ (record m { hart = h }) (record { hart = s; answers = words })
next_sound schedule next.StackOut m s words = tt
next_sound schedule (next.Stopped cause) m s words = tt

pub one_sound : (schedule : Schedule) (m : Machine) → IsSoundMachine m → IsSoundNow (one schedule m)
one_sound schedule m s =
    next_sound schedule (hart (perhaps_asked schedule m.hart)) m
    (hart_sound (perhaps_asked schedule m.hart) (perhaps_asked_sound schedule m.hart s.hart)) s.answers

pub after_sound : (schedule : Schedule) (n : ℕ) (now : Now) → IsSoundNow now → IsSoundNow (now_after schedule n now)
after_sound schedule zero now s = s
after_sound schedule (suc n) (Going m) s = after_sound schedule n (one schedule m) (one_sound schedule m s)
after_sound schedule (suc n) (Over calls end) s = tt
