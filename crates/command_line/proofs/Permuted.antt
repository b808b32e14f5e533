-- The order of the words after the first one is free.
use Rattle.std.proofs.Common.{ℕ, cond, IsTrue, List, [], ◌∷◌, sym, ap, subst, get_or, arith}
use Rattle.std.specs.List.{list_any}
use Rattle.std.specs.List.Sorted.{IsPermutation}
use Rattle.std.proofs.lemmas.List.Sorted.{IsPermutation-sym, All-permutation, Contains-permutation, sum_by-IsPermutation}
use Rattle.command_line.specs.declared.form.CommandWord.{CommandWord}
use Rattle.command_line.specs.declared.form.Slot.{Slot}
use Rattle.command_line.specs.declared.form.Slot.TheVariants.{Plain, Args, Answers, Steps, Stack, Heap, Moves, Fuel, Jobs, Alloc, Schedule, Seed, Functions}
use Rattle.choices.specs.Defaults.{defaults}
use Rattle.choices.specs.declared.choices.Choices.{Choices}
use Rattle.command_line.specs.Command.{CommandTree, RunTree, CheckTree, Sets, SetsChoices, given, left_out, TellsSlot, IsRun, IsCheck, Means, IsCommand, compile, run, check, list, soak, default_jobs, default_steps, default_size, default_moves}
use Rattle.command_line.specs.Values.{IsSteps, IsSize, IsMoves, IsItems, IsCounted, IsSeed, IsStage, IsAlloc, IsOrder, most_jobs, most_functions}
use Rattle.command_line.specs.Words.{command_text, slots_of_command, wanted_of, fills_slot, IsForm, GivesSlot}
use Rattle.command_line.proofs.Unique.{parts}

form-order : (command : CommandWord) (xs ys : List (List ℕ)) → IsPermutation xs ys → IsForm command xs → IsForm command ys
form-order command xs ys p form = record {
  each = All-permutation (λ text. IsTrue (list_any (λ slot. fills_slot slot text) (slots_of_command command))) xs ys p form.each;
  once = λ k d h. omega (arith, sum_by-IsPermutation (λ x. cond (fills_slot (get_or (slots_of_command command) k d) x) 1 0) xs ys p, form.once k d h);
  there = λ k d h. omega (arith, sum_by-IsPermutation (λ x. cond (fills_slot (get_or (wanted_of command) k d) x) 1 0) xs ys p, form.there k d h);
}

gives-order : (xs ys : List (List ℕ)) (slot : Slot) (value : List ℕ) → IsPermutation xs ys → GivesSlot xs slot value → GivesSlot ys slot value
gives-order xs ys slot value p g = (Contains-permutation xs ys _ p g.0, g.1)

sets-order : {X : Type 0} (xs ys : List (List ℕ)) (slot : Slot) (Reads : List ℕ → X → Type 0) (default x : X)
    → IsPermutation xs ys → Sets xs slot Reads default x → Sets ys slot Reads default x
sets-order xs ys slot Reads default x p (given value g reads) = given value (gives-order xs ys slot value p g) reads
sets-order xs ys slot Reads default x p (left_out none e) =
    left_out (λ value g. none value (gives-order ys xs slot value (IsPermutation-sym xs ys p) g)) e

choices-order : (xs ys : List (List ℕ)) (choices : Choices) → IsPermutation xs ys → SetsChoices xs choices → SetsChoices ys choices
choices-order xs ys choices p is = record { alloc = sets-order xs ys Alloc IsAlloc (defaults).alloc choices.alloc p is.alloc; order = sets-order xs ys Schedule IsOrder (defaults).order choices.order p is.order }

run-order : (xs ys : List (List ℕ)) (r : RunTree) → IsPermutation xs ys → IsRun xs r → IsRun ys r
run-order xs ys r p is = record {
  entry = gives-order xs ys Plain r.entry p is.entry;
  entry_name = is.entry_name;
  args = sets-order xs ys Args IsItems [] r.args p is.args;
  answers = sets-order xs ys Answers IsItems [] r.answers p is.answers;
  steps = sets-order xs ys Steps IsSteps default_steps r.steps p is.steps;
  stack = sets-order xs ys Stack IsSize default_size r.stack p is.stack;
  heap = sets-order xs ys Heap IsSize default_size r.heap p is.heap;
  moves = sets-order xs ys Moves IsMoves default_moves r.moves p is.moves;
}

check-order : (xs ys : List (List ℕ)) (c : CheckTree) → IsPermutation xs ys → IsCheck xs c → IsCheck ys c
check-order xs ys c p is = record {
  entry = gives-order xs ys Plain c.entry p is.entry;
  entry_name = is.entry_name;
  args = sets-order xs ys Args IsItems [] c.args p is.args;
  answers = sets-order xs ys Answers IsItems [] c.answers p is.answers;
  fuel = sets-order xs ys Fuel IsSteps default_steps c.fuel p is.fuel;
  choices = choices-order xs ys c.choices p is.choices;
}

tells-order : {X : Type 0} (xs ys : List (List ℕ)) (slot : Slot) (Reads : List ℕ → X → Type 0) (x : X)
    → IsPermutation xs ys → TellsSlot xs slot Reads x → TellsSlot ys slot Reads x
tells-order xs ys slot Reads x p is = record { value = is.value; gives = gives-order xs ys slot is.value p is.gives; reads = is.reads }

means-order : (xs ys : List (List ℕ)) (command : CommandWord) (tree : CommandTree) → IsPermutation xs ys → Means xs command tree → Means ys command tree
means-order xs ys _ _ p (compile choices jobs a s) =
    compile choices jobs (choices-order xs ys choices p a) (sets-order xs ys Jobs (IsCounted most_jobs) default_jobs jobs p s)
means-order xs ys _ _ p (run r is) = run r (run-order xs ys r p is)
means-order xs ys _ _ p (check c is) = check c (check-order xs ys c p is)
means-order xs ys _ _ p (list choices stage a is) = list choices stage (choices-order xs ys choices p a) (tells-order xs ys Plain IsStage stage p is)
means-order xs ys _ _ p (soak seed functions s f) =
    soak seed functions (tells-order xs ys Seed IsSeed seed p s) (tells-order xs ys Functions (IsCounted most_functions) functions p f)

-- words that differ in the order of those after the first are the same command
pub order_free : (first : List ℕ) (xs ys : List (List ℕ)) (command : CommandTree) → IsPermutation xs ys
    → IsCommand (first ∷ xs) command → IsCommand (first ∷ ys) command
order_free first xs ys tree p is =
    let both = parts first (command_text is.command) xs is.others is.begins in
    let P : List (List ℕ) → Type 0 = λ o. IsForm is.command o in
    let Q : List (List ℕ) → Type 0 = λ o. Means o is.command tree in
    record {
      command = is.command;
      others = ys;
      begins = ap (λ w. w ∷ ys) both.0;
      form = form-order is.command xs ys p (subst P (sym both.1) is.form);
      means = means-order xs ys is.command tree p (subst Q (sym both.1) is.means);
    }
