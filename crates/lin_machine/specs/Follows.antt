-- The machine follows a Linear function: what it does for one step.
use Rattle.std.specs.Prelude.{◌≡◌, ℕ, ◌+◌, ◌*◌, List, length}
use Rattle.bs_words.specs.Memory.{Memory, heap_need}
use Rattle.bs_words.specs.declared.types.Loc.{Loc}
use Rattle.bs_words.specs.declared.values.Value.{Value}
use Rattle.cmm_meaning.specs.State.{Asked, Callee, Doing, Gave, Threw, Inside, Outside}
use Rattle.mach_ir.specs.Runs.{Step, Continues, Pays, Deepens, Waits, FinishesBy, Finishes, FinishesRaising, IsStuck}
use Rattle.lin_ir.specs.Formed.{spare}
use Rattle.lin_ir.specs.Meaning.{Locations, State}
use Rattle.lin_ir.specs.declared.lin.Line.{Line}
use Rattle.rv_machine.specs.Hart.{Placed}
use Rattle.lin_machine.specs.Arrival.{Needs, needs_nothing, ArrivesIn}
use Rattle.lin_machine.specs.Moments.{AtEntry, AtReturn, AtThrow}
use Rattle.lin_machine.specs.Outside.{IsAsking}
use Rattle.lin_machine.specs.Relation.{Below, Laid, During}
use Rattle.lin_machine.specs.View.{Fixed, View}

-- What the machine holds is what the file holds, but for t0 where that is not read any more: some
-- lines destroy it, and no walk reads it after them.
pub record Agrees (live : Type 0) (held file : Locations) : Type 0 where
  pub others : (l : Loc) → (l ≡ spare → ⊥) → held l ≡ file l
  pub spare_too : live → held spare ≡ file spare

-- the function is between two lines; t0 is live in this code and in that
abbrev pub IsAt : Fixed → Laid → (List Line → Type 0) → Below → State → View → Type 0
IsAt s laid live c u w =
    (young : List Placed) × (held : Locations) × Agrees (live u.rest) held u.file
    × During s laid w young (length u.rest) held u.around c

-- what a function did, seen from below it
abbrev pub IsDone : Fixed → Below → Doing → View → Type 0
IsDone s c (Gave value memory) w = (young : List Placed) × AtReturn s w young value memory c
IsDone s c (Threw x memory) w = (young : List Placed) × AtThrow s w young x memory c

-- a callee is about to begin; the place of each function's entry is given by its number
abbrev pub IsEntered : Fixed → (ℕ → ℕ) → ℕ → List Value → Memory → Below → View → Type 0
IsEntered s entry f arguments memory below w =
    (young : List Placed) × AtEntry s w young (entry f) arguments memory below

-- where a step has come to that makes no call
abbrev pub IsAfter : Fixed → Laid → (List Line → Type 0) → Below → Step State → View → Type 0
IsAfter s laid live c (Continues u) w = IsAt s laid live c u w
IsAfter s laid live c (Pays u) w = IsAt s laid live c u w
IsAfter s laid live c (Deepens bytes u) w = IsAt s laid live c u w
IsAfter s laid live c (Waits call go) w = ⊥
IsAfter s laid live c (FinishesBy call kept) w = ⊥
IsAfter s laid live c (Finishes d) w = IsDone s c d w
IsAfter s laid live c (FinishesRaising d) w = IsDone s c d w
IsAfter s laid live c IsStuck w = Unit {0}

-- ---- what is needed

-- the bytes of stack between its caller's end and its own, pushed traps among them
abbrev pub used : Laid → State → ℕ
used laid u = laid.frame + 16 * length u.around.tries

abbrev pub needs_of : Laid → Below → State → Needs
needs_of laid c u =
    record { top = c.top; stack = used laid u; heap = heap_need u.around.memory }

-- ---- one step, in at most so many instructions, and at least one for a unit

-- A call of a function begins the callee above an activation that waits, and whatever the callee
-- does, the function goes on after it.
pub record FollowsCall (n : ℕ) (s : Fixed) (laid : Laid) (live : List Line → Type 0)
    (entry : ℕ → ℕ) (c : Below) (v : View) (f : ℕ) (arguments : List Value) (memory : Memory)
    (go : Doing → Step State) : Type 0 where
  pub below : Below
  pub enters : ArrivesIn 1 n s (needs_nothing s) v (IsEntered s entry f arguments memory below)
  pub resumes : (d : Doing) (w : View) → IsDone s below d w → IsAfter s laid live c (go d) w

abbrev pub FollowsAsked : ℕ → Fixed → Laid → (List Line → Type 0) → (ℕ → ℕ) → Below → View → Asked →
    (Doing → Step State) → Callee → Type 0
FollowsAsked n s laid live entry c v call go (Inside f) =
    FollowsCall n s laid live entry c v f call.arguments call.memory go
FollowsAsked n s laid live entry c v call go (Outside row frame) =
    ArrivesIn 0 n s (needs_nothing s) v
    (IsAsking s (record { top = s.base; stack = 0; heap = heap_need call.memory }) row frame
    call.arguments call.memory (λ d w. IsAfter s laid live c (go d) w))

-- a call that takes the function's place begins the callee where the function began
abbrev pub FollowsTail : ℕ → Fixed → (ℕ → ℕ) → Below → View → Asked → Callee → Type 0
FollowsTail n s entry c v call (Inside f) =
    ArrivesIn 1 n s (needs_nothing s) v (IsEntered s entry f call.arguments call.memory c)
FollowsTail n s entry c v call (Outside row frame) = ⊥

abbrev pub FollowsStep : ℕ → Fixed → Laid → (List Line → Type 0) → (ℕ → ℕ) → Below → View →
    Step State → Type 0
FollowsStep n s laid live entry c v (Continues u) =
    ArrivesIn 0 n s (needs_of laid c u) v (IsAt s laid live c u)
FollowsStep n s laid live entry c v (Pays u) = ArrivesIn 1 n s (needs_of laid c u) v
    (IsAt s laid live c u)
FollowsStep n s laid live entry c v (Deepens bytes u) =
    ArrivesIn 0 n s (needs_of laid c u) v (IsAt s laid live c u)
FollowsStep n s laid live entry c v (Waits call go) =
    FollowsAsked n s laid live entry c v call go call.callee
FollowsStep n s laid live entry c v (FinishesBy call kept) =
    FollowsTail n s entry c v call call.callee
FollowsStep n s laid live entry c v (Finishes d) = ArrivesIn 0 n s (needs_nothing s) v (IsDone s c d)
FollowsStep n s laid live entry c v (FinishesRaising d) = ArrivesIn 1 n s (needs_nothing s) v
    (IsDone s c d)
FollowsStep n s laid live entry c v IsStuck = Unit {0}
