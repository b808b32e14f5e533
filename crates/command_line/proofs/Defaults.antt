-- What the texts of defaults are read as.
use Rattle.std.proofs.Common.{◌≡◌, ◌≤◌, ◌&&◌, ℕ, Bool, true, false, List, [], ◌∷◌, All, codes, length, nat_le, refl, arith, leb-true}
use Rattle.std.specs.List.{list_all}
use Rattle.std.proofs.lemmas.Bool.{both_ways}
use Rattle.std.proofs.lemmas.List.Elements.{All-cons}
use Rattle.command_line.specs.declared.form.Slot.TheVariants.{Args, Answers, Steps, Stack, Heap, Fuel, Jobs}
use Rattle.command_line.specs.declared.form.Slot.TheVariants as slot
use Rattle.choices.specs.Defaults.{defaults}
use Rattle.command_line.specs.Command.{default_jobs, default_steps, default_size, default_moves}
use Rattle.rv_machine.specs.Places.{most_room}
use Rattle.command_line.specs.Values.{IsSteps, IsSize, IsMoves, never, IsItems, none, IsCounted, IsAlloc, IsOrder, most_jobs, most_steps}
use Rattle.command_line.specs.Program.{Defaults}
use Rattle.command_line.proofs.Cuts.{list-unique}
use Rattle.command_line.proofs.Unique.{steps-unique, size-unique, moves-unique, counted-unique, alloc-unique, order-unique}

abbrev digit : ℕ → Bool
digit b = nat_le 48 b && nat_le b 57

halves : (a b : Bool) → (a && b) ≡ true → (a ≡ true) × (b ≡ true)
halves true b e = (refl, e)
halves false b e = absurd (both_ways false refl e)

all_digits : (bytes : List ℕ) → list_all digit bytes ≡ true → All (λ b. (48 ≤ b) × (b ≤ 57)) bytes
all_digits [] e = λ k d h. omega arith
all_digits (b ∷ bytes) e =
    let parts = halves (digit b) (list_all digit bytes) e in
    let both = halves (nat_le 48 b) (nat_le b 57) parts.0 in
    All-cons (λ b. (48 ≤ b) × (b ≤ 57)) b bytes (leb-true 48 b both.0, leb-true b 57 both.1) (all_digits bytes parts.1)

steps_default : IsSteps (codes "100000000") default_steps
steps_default = record {
  number = record { some = leb-true 1 (length (codes "100000000")) refl; digits = all_digits (codes "100000000") refl; value = refl };
  limit = leb-true default_steps most_steps refl;
}

size_default : IsSize (codes "1048576") default_size
size_default = record {
  number = record { some = leb-true 1 (length (codes "1048576")) refl; digits = all_digits (codes "1048576") refl; value = refl };
  limit = leb-true default_size most_room refl;
  aligned = refl;
}

jobs_default : IsCounted most_jobs (codes "1") default_jobs
jobs_default = record {
  number = record { some = leb-true 1 (length (codes "1")) refl; digits = all_digits (codes "1") refl; value = refl };
  some = leb-true 1 default_jobs refl;
  limited = leb-true default_jobs most_jobs refl;
}

pub args_left_out : Defaults Args IsItems []
args_left_out = record { text = _; is = refl; reads = none refl refl; alone = λ x is. list-unique [] x [] is (none refl refl) }

pub answers_left_out : Defaults Answers IsItems []
answers_left_out = record { text = _; is = refl; reads = none refl refl; alone = λ x is. list-unique [] x [] is (none refl refl) }

pub steps_left_out : Defaults Steps IsSteps default_steps
steps_left_out = record { text = codes "100000000"; is = refl; reads = steps_default; alone = λ x is. steps-unique (codes "100000000") x default_steps is steps_default }

pub fuel_left_out : Defaults Fuel IsSteps default_steps
fuel_left_out = record { text = codes "100000000"; is = refl; reads = steps_default; alone = λ x is. steps-unique (codes "100000000") x default_steps is steps_default }

pub stack_left_out : Defaults Stack IsSize default_size
stack_left_out = record { text = codes "1048576"; is = refl; reads = size_default; alone = λ x is. size-unique (codes "1048576") x default_size is size_default }

pub heap_left_out : Defaults Heap IsSize default_size
heap_left_out = record { text = codes "1048576"; is = refl; reads = size_default; alone = λ x is. size-unique (codes "1048576") x default_size is size_default }

pub moves_left_out : Defaults slot.Moves IsMoves default_moves
moves_left_out = record { text = codes "none"; is = refl; reads = never refl refl; alone = λ x is. moves-unique (codes "none") x default_moves is (never refl refl) }

pub jobs_left_out : Defaults Jobs (IsCounted most_jobs) default_jobs
jobs_left_out = record { text = codes "1"; is = refl; reads = jobs_default; alone = λ x is. counted-unique most_jobs (codes "1") x default_jobs is jobs_default }

pub alloc_left_out : Defaults slot.Alloc IsAlloc (defaults).alloc
alloc_left_out = record { text = codes "colour"; is = refl; reads = refl; alone = λ x is. alloc-unique (codes "colour") x (defaults).alloc is refl }

pub order_left_out : Defaults slot.Schedule IsOrder (defaults).order
order_left_out = record { text = codes "none"; is = refl; reads = refl; alone = λ x is. order-unique (codes "none") x (defaults).order is refl }
