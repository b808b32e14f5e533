-- The machine comes to a view of which something holds, under every schedule, in so many
-- instructions, or there is no room on the way: a need is greater than what there is.
use Rattle.std.specs.Prelude.{◌≡◌, ℕ, ◌+◌, ◌<◌, ◌≤◌, ◌⊎◌}
use Rattle.rv_machine.specs.Services.{End, StackOut, HeapOut, Machine, Going, Over}
use Rattle.guarded_machine.specs.Guarded.{guarded_after}
use Rattle.lin_machine.specs.View.{Fixed, View, HasView}

-- What a step needs: bytes of stack below an address, and bytes of heap.
pub record Needs : Type 0 where
  pub top : ℕ
  pub stack : ℕ
  pub heap : ℕ

abbrev pub IsOutOfRoom : Fixed → Needs → End → Type 0
IsOutOfRoom s q e =
    ((e ≡ StackOut) × (q.top < s.base + q.stack)) ⊎ ((e ≡ HeapOut) × (s.heap < q.heap))

-- what is always there
abbrev pub needs_nothing : Fixed → Needs
needs_nothing s = record { top = s.base; stack = 0; heap = 0 }

pub record ArrivalIn (least most : ℕ) (s : Fixed) (v : View) (a : Machine) (P : View → Type 0)
    : Type 0 where
  pub count : ℕ
  -- not before so many instructions, and after so many at most
  pub some : least ≤ count
  pub few : count ≤ most
  pub view : View
  pub machine : Machine
  pub stands : HasView s machine view
  pub answers : view.answers ≡ v.answers
  pub calls : view.calls ≡ v.calls
  pub by : (j k : ℕ) → j ≡ count + k →
      guarded_after s.schedule j (Going a) ≡ guarded_after s.schedule k (Going machine)
  pub holds : P view

-- the run is over for want of stack or heap
pub record Gone (s : Fixed) (q : Needs) (v : View) (a : Machine) : Type 0 where
  pub count : ℕ
  pub end : End
  pub want : IsOutOfRoom s q end
  pub by : (j k : ℕ) → j ≡ count + k →
      guarded_after s.schedule j (Going a) ≡ guarded_after s.schedule k (Over v.calls end)

pub record ArrivesIn (least most : ℕ) (s : Fixed) (q : Needs) (v : View) (P : View → Type 0)
    : Type 0 where
  pub from : (a : Machine) → HasView s a v → ArrivalIn least most s v a P ⊎ Gone s q v a

abbrev pub Arrives : ℕ → Fixed → Needs → View → (View → Type 0) → Type 0
Arrives most s q v P = ArrivesIn 0 most s q v P
