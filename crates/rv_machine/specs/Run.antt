-- A run of the machine under a schedule of the mover.
use Rattle.std.specs.Prelude.{ℕ, zero, suc, Bool, false, cond, ◌||◌, ◌==◌, List, [], ◌∷◌, Option, Some, None, slice_get}
use Rattle.bs_words.specs.Observed.{Made}
use Rattle.image_form.specs.Tables.{Tables, Func}
use Rattle.rv_machine.specs.Hart.{Hart, Placed, Next, Retired, Service, hart}
use Rattle.rv_machine.specs.Hart as next
use Rattle.rv_machine.specs.Memory.{written, memory_or}
use Rattle.rv_machine.specs.Services.{End, Running, StackOut, Stopped, Machine, Now, Going, Over, service}
use Rattle.rv_machine.specs.Start.{start}
use Rattle.rv_machine.specs.Places.{domain_start, limit_asked}

-- When the mover asks, and where it puts the blocks.
-- They are functions, of which finite lists are a case (`lists`). A list could not hold the plans of a
-- seed, which depend on the blocks' sizes.
pub record Schedule : Type 0 where
  -- whether it asks before the instruction of this number
  pub asks : ℕ → Bool
  -- the new starts that it plans, at the allocation service or frame call of this number, for the blocks that
  -- there then are, by serial; a list that is no valid plan means packing
  pub plan : ℕ → List Placed → List ℕ

abbrev pub is_among : List ℕ → ℕ → Bool
is_among [] k = false
is_among (a ∷ rest) k = (a == k) || is_among rest k

abbrev pub plan_or_none : Option (List ℕ) → List ℕ
plan_or_none None = []
plan_or_none (Some starts) = starts

-- the schedule of these asks and plans, the first plan for the first allocation service or frame call; one
-- that is missing means packing
abbrev pub lists : List ℕ → List (List ℕ) → Schedule
lists asks plans =
    record { asks = is_among asks; plan = λ number blocks. plan_or_none (slice_get plans number) }

-- an ask sets the limit word and nothing else
abbrev pub asked : Hart → Hart
asked h = record h { memory = memory_or h.memory (written h.memory domain_start 8 limit_asked) }

-- the mover asks before the instruction of this number, or does not
abbrev pub perhaps_asked : Schedule → Hart → Hart
perhaps_asked schedule h = cond (schedule.asks h.retired) (asked h) h

-- an ECALL and its service count as one instruction
abbrev pub after_next : Schedule → Next → Machine → Now
after_next schedule (Retired h) m = Going (record m { hart = h })
after_next schedule (Service h) m = service schedule.plan (record m { hart = h })
after_next schedule next.StackOut m = Over m.calls StackOut
after_next schedule (next.Stopped cause) m = Over m.calls (Stopped cause)

-- one instruction, and the ask before it
abbrev pub one : Schedule → Machine → Now
one schedule m = after_next schedule (hart (perhaps_asked schedule m.hart)) m

-- so many instructions more; a run that is over stays over
abbrev pub now_after : Schedule → ℕ → Now → Now
now_after schedule zero now = now
now_after schedule (suc n) (Going m) = now_after schedule n (one schedule m)
now_after schedule (suc n) (Over calls end) = Over calls end

-- What is reported of a run: the external calls so far, first to last, and whether it goes on or how it ended.
pub record Seen : Type 0 where
  pub calls : List Made
  pub end : End

abbrev pub seen : Now → Seen
seen (Going m) = record { calls = m.calls; end = Running }
seen (Over calls end) = record { calls = calls; end = end }

-- a run from the entry of a function
abbrev pub begun : Tables → Func → List ℕ → List ℕ → ℕ → ℕ → Now
begun image entry args answers stack heap =
    Going (record { hart = start image entry args stack heap; result = entry.result; answers = answers; calls = [] })

-- the run after m instructions
abbrev pub machine_run : Tables → Func → List ℕ → List ℕ → ℕ → ℕ → Schedule → ℕ → Seen
machine_run image entry args answers stack heap schedule m =
    seen (now_after schedule m (begun image entry args answers stack heap))
