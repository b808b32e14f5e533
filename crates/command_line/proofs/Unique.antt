-- Words are at most one command.
use Rattle.std.proofs.Common.{Contains, ◌≡◌, ◌≢◌, ◌==◌, if◌then◌else◌, ℕ, ◌+◌, ◌*◌, ◌≤◌, ◌%◌, List, [], ◌∷◌, codes, get_or, Option, Some, None, Result, Ok, Err, MatchOption, IfOk, refl, sym, ap, ap₂, ◌∙◌, subst, arith, lit<, count_by}
use Rattle.std.proofs.lemmas.List.{append_cancel_left}
use Rattle.rv_machine.specs.declared.setup.Arg.{Arg}
use Rattle.command_line.specs.declared.form.CommandWord.{CommandWord}
use Rattle.command_line.specs.declared.form.CommandWord.TheVariants as word
use Rattle.command_line.specs.declared.form.Slot.{Slot}
use Rattle.command_line.specs.declared.form.Slot.TheVariants.{Plain, Args, Answers, Steps, Stack, Heap, Fuel, Jobs, Functions}
use Rattle.command_line.specs.declared.form.Slot.TheVariants as slot
use Rattle.choices.specs.Defaults.{defaults}
use Rattle.choices.specs.declared.choices.Alloc.{Alloc}
use Rattle.choices.specs.declared.choices.Alloc.TheVariants.{Colour, Linear}
use Rattle.choices.specs.declared.choices.Choices.{Choices}
use Rattle.choices.specs.declared.choices.Order.{Order}
use Rattle.choices.specs.declared.choices.Order.TheVariants as order
use Rattle.stages.specs.declared.stage.Stage.{Stage}
use Rattle.stages.specs.declared.stage.Stage.TheVariants as stage
use Rattle.command_line.specs.declared.command.Moves.{Moves}
use Rattle.command_line.specs.declared.command.Moves.TheVariants.{Seed}
use Rattle.command_line.specs.Command.{CommandTree, CompileCommand, RunCommand, CheckCommand, ListCommand, RunTree, CheckTree, IsRun, IsCheck, Means, IsCommand, compile, run, check, list, soak, default_jobs, default_steps, default_size, default_moves, Sets, SetsChoices, given, left_out, TellsSlot, MayWantMemory, WithinLimits, WithinFuel, KeepsLimits}
use Rattle.rv_machine.specs.Places.{most_room}
use Rattle.command_line.specs.Values.{Nothing, IsSteps, IsSize, IsMoves, never, every, seeded, SeedsMoves, seed, IsItems, IsCounted, IsSeed, IsStage, stage_word, IsAlloc, alloc_word, IsOrder, order_word, decimal_number, most_steps, most_jobs, most_functions}
use Rattle.command_line.specs.View.{view}
use Rattle.command_line.specs.Words.{command_text, slots_of_command, fills_slot, IsForm, AreCommandWords}
use Rattle.command_line.specs.declared.command.Command.{Command}
use Rattle.command_line.specs.declared.command.WordsError.{WordsError}
use Rattle.command_line.proofs.Cuts.{list-unique, tail-same}
use Rattle.command_line.proofs.Gives.{gives-unique, sets-unique, tells-unique}

pub steps-unique : (bytes : List ℕ) (m n : ℕ) → IsSteps bytes m → IsSteps bytes n → m ≡ n
steps-unique bytes m n a b = a.number.value ∙ sym b.number.value

pub size-unique : (bytes : List ℕ) (m n : ℕ) → IsSize bytes m → IsSize bytes n → m ≡ n
size-unique bytes m n a b = a.number.value ∙ sym b.number.value

pub counted-unique : (limit : ℕ) (bytes : List ℕ) (m n : ℕ) → IsCounted limit bytes m → IsCounted limit bytes n → m ≡ n
counted-unique limit bytes m n a b = a.number.value ∙ sym b.number.value

seed-unique : (bytes : List ℕ) (m n : ℕ) → IsSeed bytes m → IsSeed bytes n → m ≡ n
seed-unique bytes m n a b = a.number.value ∙ sym b.number.value

-- the second byte and the third of a stage's word tell the stage
abbrev mark : List ℕ → ℕ
mark text = 256 * get_or text 1 0 + get_or text 2 0

abbrev stage_by : ℕ → Stage
stage_by n = if n == 25964 then stage.Select else (if n == 28525 then stage.CombAlloc else (if n == 29541 then stage.Cse
    else (if n == 25953 then stage.Dead else (if n == 28777 then stage.Spill else (if n == 28780 then stage.Split
    else (if n == 27756 then stage.Alloc else (if n == 26990 then stage.Linear else (if n == 29281 then stage.Frames else stage.Code))))))))

told_stage : (s : Stage) → stage_by (mark (stage_word s)) ≡ s
told_stage stage.Select = refl
told_stage stage.CombAlloc = refl
told_stage stage.Cse = refl
told_stage stage.Dead = refl
told_stage stage.Spill = refl
told_stage stage.Split = refl
told_stage stage.Alloc = refl
told_stage stage.Linear = refl
told_stage stage.Frames = refl
told_stage stage.Code = refl

stage-unique : (text : List ℕ) (a b : Stage) → IsStage text a → IsStage text b → a ≡ b
stage-unique text a b e f =
    sym (told_stage a) ∙ (ap (λ t. stage_by (mark t)) (sym e ∙ f) ∙ told_stage b)

-- the first byte of the word for a way to allocate tells the way
abbrev alloc_by : ℕ → Alloc
alloc_by n = if n == 99 then Colour else Linear

told_alloc : (a : Alloc) → alloc_by (get_or (alloc_word a) 0 0) ≡ a
told_alloc Colour = refl
told_alloc Linear = refl

pub alloc-unique : (text : List ℕ) (a b : Alloc) → IsAlloc text a → IsAlloc text b → a ≡ b
alloc-unique text a b e f =
    sym (told_alloc a) ∙ (ap (λ t. alloc_by (get_or t 0 0)) (sym e ∙ f) ∙ told_alloc b)

-- and so does that of the word for an order
abbrev order_by : ℕ → Order
order_by n = if n == 110 then order.Plain else order.List

told_order : (o : Order) → order_by (get_or (order_word o) 0 0) ≡ o
told_order order.Plain = refl
told_order order.List = refl

pub order-unique : (text : List ℕ) (a b : Order) → IsOrder text a → IsOrder text b → a ≡ b
order-unique text a b e f =
    sym (told_order a) ∙ (ap (λ t. order_by (get_or t 0 0)) (sym e ∙ f) ∙ told_order b)

same_choices : (alloc alloc' : Alloc) (order order' : Order) → alloc ≡ alloc' → order ≡ order'
    → let c : Choices = record { alloc = alloc; order = order } in
    let d : Choices = record { alloc = alloc'; order = order' } in
    c ≡ d
same_choices alloc alloc' order order' a b = cc

choices-unique : (others : List (List ℕ)) → count_by (fills_slot slot.Alloc) others ≤ 1 → count_by (fills_slot slot.Schedule) others ≤ 1 → (c d : Choices)
    → SetsChoices others c → SetsChoices others d → c ≡ d
choices-unique others few once c d a b =
    same_choices c.alloc d.alloc c.order d.order
    (sets-unique others slot.Alloc IsAlloc (defaults).alloc few alloc-unique c.alloc d.alloc a.alloc b.alloc)
    (sets-unique others slot.Schedule IsOrder (defaults).order once order-unique c.order d.order a.order b.order)

-- after `seed:` there is one seed
seeds-unique : (text : List ℕ) (a b : Moves) → SeedsMoves text a → SeedsMoves text b → a ≡ b
seeds-unique text a b (seed digits n t is e) (seed digits' m t' is' e') =
    let same : digits ≡ digits' = append_cancel_left (codes "seed:") digits digits' (sym t ∙ t') in
    let number : n ≡ m = is.number.value ∙ (ap decimal_number same ∙ sym is'.number.value) in
    e ∙ (ap Seed number ∙ sym e')

-- the first bytes of the texts differ
no_none : (text : List ℕ) (m : Moves) → text ≡ codes "none" → SeedsMoves text m → ⊥
no_none text m t (seed digits n t' is e) = let h = (tail-same 110 115 _ _ (sym t ∙ t')).0 in omega arith

no_every : (text : List ℕ) (m : Moves) → text ≡ codes "every" → SeedsMoves text m → ⊥
no_every text m t (seed digits n t' is e) = let h = (tail-same 101 115 _ _ (sym t ∙ t')).0 in omega arith

none_or_every : (text : List ℕ) → text ≡ codes "none" → text ≡ codes "every" → ⊥
none_or_every text t t' = let h = (tail-same 110 101 _ _ (sym t ∙ t')).0 in omega arith

pub moves-unique : (text : List ℕ) (a b : Moves) → IsMoves text a → IsMoves text b → a ≡ b
moves-unique text a b (never t e) (never t' e') = e ∙ sym e'
moves-unique text a b (never t e) (every t' e') = absurd (none_or_every text t t')
moves-unique text a b (never t e) (seeded s) = absurd (no_none text b t s)
moves-unique text a b (every t e) (never t' e') = absurd (none_or_every text t' t)
moves-unique text a b (every t e) (every t' e') = e ∙ sym e'
moves-unique text a b (every t e) (seeded s) = absurd (no_every text b t s)
moves-unique text a b (seeded s) (never t e) = absurd (no_none text a t s)
moves-unique text a b (seeded s) (every t e) = absurd (no_every text a t s)
moves-unique text a b (seeded s) (seeded s') = seeds-unique text a b s s'

same_run : (entry entry' : List ℕ) (args args' answers answers' : List Arg) (steps steps' stack stack' heap heap' : ℕ) (moves moves' : Moves)
    → entry ≡ entry' → args ≡ args' → answers ≡ answers' → steps ≡ steps' → stack ≡ stack' → heap ≡ heap' → moves ≡ moves'
    → let r : RunTree = record { entry = entry; args = args; answers = answers; steps = steps; stack = stack; heap = heap; moves = moves } in
    let s : RunTree = record { entry = entry'; args = args'; answers = answers'; steps = steps'; stack = stack'; heap = heap'; moves = moves' } in
    r ≡ s
same_run entry entry' args args' answers answers' steps steps' stack stack' heap heap' moves moves' a b c d e f g = cc

pub run-unique : (others : List (List ℕ)) → IsForm word.Run others → (r s : RunTree) → IsRun others r → IsRun others s → r ≡ s
run-unique others form r s a b =
    same_run r.entry s.entry r.args s.args r.answers s.answers r.steps s.steps r.stack s.stack r.heap s.heap r.moves s.moves
    (gives-unique Plain others r.entry s.entry (form.once 0 Plain (lit< tt)) a.entry b.entry)
    (sets-unique others Args IsItems [] (form.once 1 Args (lit< tt)) list-unique r.args s.args a.args b.args)
    (sets-unique others Answers IsItems [] (form.once 2 Answers (lit< tt)) list-unique r.answers s.answers a.answers b.answers)
    (sets-unique others Steps IsSteps default_steps (form.once 3 Steps (lit< tt)) steps-unique r.steps s.steps a.steps b.steps)
    (sets-unique others Stack IsSize default_size (form.once 4 Stack (lit< tt)) size-unique r.stack s.stack a.stack b.stack)
    (sets-unique others Heap IsSize default_size (form.once 5 Heap (lit< tt)) size-unique r.heap s.heap a.heap b.heap)
    (sets-unique others slot.Moves IsMoves default_moves (form.once 6 slot.Moves (lit< tt)) moves-unique r.moves s.moves a.moves b.moves)

same_check : (entry entry' : List ℕ) (args args' answers answers' : List Arg) (fuel fuel' : ℕ) (choices choices' : Choices)
    → entry ≡ entry' → args ≡ args' → answers ≡ answers' → fuel ≡ fuel' → choices ≡ choices'
    → let c : CheckTree = record { entry = entry; args = args; answers = answers; fuel = fuel; choices = choices } in
    let d : CheckTree = record { entry = entry'; args = args'; answers = answers'; fuel = fuel'; choices = choices' } in
    c ≡ d
same_check entry entry' args args' answers answers' fuel fuel' choices choices' a b c d e = cc

pub check-unique : (others : List (List ℕ)) → IsForm word.Check others → (c d : CheckTree) → IsCheck others c → IsCheck others d → c ≡ d
check-unique others form c d a b =
    same_check c.entry d.entry c.args d.args c.answers d.answers c.fuel d.fuel c.choices d.choices
    (gives-unique Plain others c.entry d.entry (form.once 0 Plain (lit< tt)) a.entry b.entry)
    (sets-unique others Args IsItems [] (form.once 1 Args (lit< tt)) list-unique c.args d.args a.args b.args)
    (sets-unique others Answers IsItems [] (form.once 2 Answers (lit< tt)) list-unique c.answers d.answers a.answers b.answers)
    (sets-unique others Fuel IsSteps default_steps (form.once 3 Fuel (lit< tt)) steps-unique c.fuel d.fuel a.fuel b.fuel)
    (choices-unique others (form.once 4 slot.Alloc (lit< tt)) (form.once 5 slot.Schedule (lit< tt)) c.choices d.choices a.choices b.choices)

pub parts : (x y : List ℕ) (xs ys : List (List ℕ)) → x ∷ xs ≡ y ∷ ys → (x ≡ y) × (xs ≡ ys)
parts x y xs ys e = (cc, cc)

-- the third byte of a command's word identifies the command
abbrev command_by : ℕ → CommandWord
command_by n = if n == 109 then word.Compile else (if n == 110 then word.Run else (if n == 101 then word.Check
    else (if n == 115 then word.List else word.Soak)))

told_command : (c : CommandWord) → command_by (get_or (command_text c) 2 0) ≡ c
told_command word.Compile = refl
told_command word.Run = refl
told_command word.Check = refl
told_command word.List = refl
told_command word.Soak = refl

-- a word names one command
pub word-unique : (c d : CommandWord) → command_text c ≡ command_text d → c ≡ d
word-unique c d e = sym (told_command c) ∙ (ap (λ t. command_by (get_or t 2 0)) e ∙ told_command d)

means-unique : (others : List (List ℕ)) (command : CommandWord) (c d : CommandTree) → IsForm command others
    → Means others command c → Means others command d → c ≡ d
means-unique others _ _ _ form (compile c j a s) (compile d k b t) =
    ap₂ CompileCommand (choices-unique others (form.once 1 slot.Alloc (lit< tt)) (form.once 2 slot.Schedule (lit< tt)) c d a b)
    (sets-unique others Jobs (IsCounted most_jobs) default_jobs (form.once 0 Jobs (lit< tt)) (counted-unique most_jobs) j k s t)
means-unique others _ _ _ form (run r a) (run s b) = ap RunCommand (run-unique others form r s a b)
means-unique others _ _ _ form (check c a) (check d b) = ap CheckCommand (check-unique others form c d a b)
means-unique others _ _ _ form (list c a k s) (list d b l t) =
    ap₂ ListCommand (choices-unique others (form.once 1 slot.Alloc (lit< tt)) (form.once 2 slot.Schedule (lit< tt)) c d k l)
    (tells-unique others Plain IsStage (form.once 0 Plain (lit< tt)) stage-unique a b s t)
means-unique others _ _ _ form (soak m k s u) (soak n l t v) =
    let seeds : m ≡ n = tells-unique others slot.Seed IsSeed (form.once 0 slot.Seed (lit< tt)) seed-unique m n s t in
    let counts : k ≡ l =
    tells-unique others Functions (IsCounted most_functions) (form.once 1 Functions (lit< tt)) (counted-unique most_functions) k l u v in
    cc

pub command-unique : (words : List (List ℕ)) (c d : CommandTree) → IsCommand words c → IsCommand words d → c ≡ d
command-unique words c d a b =
    let both = parts (command_text a.command) (command_text b.command) a.others b.others (sym a.begins ∙ b.begins) in
    let same : b.command ≡ a.command = sym (word-unique a.command b.command both.0) in
    let P : CommandWord → Type 0 = λ command. Means b.others command d in
    let Q : List (List ℕ) → Type 0 = λ others. Means others a.command d in
    means-unique a.others a.command c d a.form a.means (subst Q (sym both.1) (subst P same b.means))

-- ---- from the first word

pub no_words : (words : List (List ℕ)) → words ≡ [] → AreCommandWords words → ⊥
no_words words e form = let h : command_text form.command ∷ form.others ≡ [] = sym form.begins ∙ e in cc

pub not_named : (words : List (List ℕ)) (first : List ℕ) (others : List (List ℕ)) → words ≡ first ∷ others
    → ((command : CommandWord) → first ≢ command_text command) → AreCommandWords words → ⊥
not_named words first others e none form =
    none form.command (parts first (command_text form.command) others form.others (sym e ∙ form.begins)).0

pub form_of : (command : CommandWord) (words : List (List ℕ)) (first : List ℕ) (others : List (List ℕ)) → words ≡ first ∷ others
    → first ≡ command_text command → AreCommandWords words → IsForm command others
form_of command words first others e named form =
    let both = parts first (command_text form.command) others form.others (sym e ∙ form.begins) in
    let same : command ≡ form.command = word-unique command form.command (sym named ∙ both.0) in
    let P : CommandWord → Type 0 = λ c. IsForm c others in
    let Q : List (List ℕ) → Type 0 = λ o. IsForm form.command o in
    subst P (sym same) (subst Q (sym both.1) form.form)

pub well_formed : (command : CommandWord) (words : List (List ℕ)) (first : List ℕ) (others : List (List ℕ)) → words ≡ first ∷ others
    → first ≡ command_text command → IsForm command others → AreCommandWords words
well_formed command words first others e named form =
    record { command = command; others = others; begins = e ∙ ap (λ w. w ∷ others) named; form = form }

pub is_command : (command : CommandWord) (words : List (List ℕ)) (first : List ℕ) (others : List (List ℕ)) (tree : CommandTree) → words ≡ first ∷ others
    → first ≡ command_text command → IsForm command others → Means others command tree → IsCommand words tree
is_command command words first others tree e named form means =
    record { command = command; others = others; begins = e ∙ ap (λ w. w ∷ others) named; form = form; means = means }

pub no_command : (command : CommandWord) (words : List (List ℕ)) (first : List ℕ) (others : List (List ℕ)) → words ≡ first ∷ others
    → first ≡ command_text command → Nothing (Means others command) → Nothing (IsCommand words)
no_command command words first others e named none tree is =
    let both = parts first (command_text is.command) others is.others (sym e ∙ is.begins) in
    let same : is.command ≡ command = sym (word-unique command is.command (sym named ∙ both.0)) in
    let P : CommandWord → Type 0 = λ c. Means is.others c tree in
    let Q : List (List ℕ) → Type 0 = λ o. Means o command tree in
    none tree (subst Q (sym both.1) (subst P same is.means))

pub means_at : (others : List (List ℕ)) (command w : CommandWord) (tree : CommandTree) → command ≡ w → Means others w tree → Means others command tree
means_at others command w tree e means = let P : CommandWord → Type 0 = λ c. Means others c tree in subst P (sym e) means

pub nothing_at : (others : List (List ℕ)) (command w : CommandWord) → command ≡ w → Nothing (Means others w) → Nothing (Means others command)
nothing_at others command w e none = let P : CommandWord → Type 0 = λ c. Nothing (Means others c) in subst P (sym e) none

pub memory_at : (others : List (List ℕ)) (command w : CommandWord) → command ≡ w → MayWantMemory others w → MayWantMemory others command
memory_at others command w e wants = let P : CommandWord → Type 0 = MayWantMemory others in subst P (sym e) wants

pub form_at : (others : List (List ℕ)) (command w : CommandWord) → command ≡ w → IsForm command others → IsForm w others
form_at others command w e form = let P : CommandWord → Type 0 = λ c. IsForm c others in subst P e form

pub stands_at : (H : Slot → Type 0) (command w : CommandWord) → command ≡ w → ((slot : Slot) → Contains (slots_of_command command) slot → H slot)
    → (slot : Slot) → Contains (slots_of_command w) slot → H slot
stands_at H command w e stands =
    let P : CommandWord → Type 0 = λ c. (slot : Slot) → Contains (slots_of_command c) slot → H slot in subst P e stands

-- what the words after a command's may mean, one by one
pub no_choices : (others : List (List ℕ)) → Nothing (Sets others slot.Alloc IsAlloc (defaults).alloc) → Nothing (SetsChoices others)
no_choices others none choices s = none choices.alloc s.alloc

pub no_order : (others : List (List ℕ)) → Nothing (Sets others slot.Schedule IsOrder (defaults).order) → Nothing (SetsChoices others)
no_order others none choices s = none choices.order s.order

pub no_compile : (others : List (List ℕ)) → Nothing (Sets others Jobs (IsCounted most_jobs) default_jobs) → Nothing (Means others word.Compile)
no_compile others none _ (compile choices jobs a s) = none jobs s

pub no_compile_choices : (others : List (List ℕ)) → Nothing (SetsChoices others) → Nothing (Means others word.Compile)
no_compile_choices others none _ (compile choices jobs a s) = none choices a

pub no_run : (others : List (List ℕ)) → Nothing (IsRun others) → Nothing (Means others word.Run)
no_run others none _ (run r is) = none r is

pub no_check : (others : List (List ℕ)) → Nothing (IsCheck others) → Nothing (Means others word.Check)
no_check others none _ (check c is) = none c is

pub no_list : (others : List (List ℕ)) → Nothing (TellsSlot others Plain IsStage) → Nothing (Means others word.List)
no_list others none _ (list choices stage a is) = none stage is

pub no_list_choices : (others : List (List ℕ)) → Nothing (SetsChoices others) → Nothing (Means others word.List)
no_list_choices others none _ (list choices stage a is) = none choices a

pub no_seed : (others : List (List ℕ)) → Nothing (TellsSlot others slot.Seed IsSeed) → Nothing (Means others word.Soak)
no_seed others none _ (soak m k s f) = none m s

pub no_functions : (others : List (List ℕ)) → Nothing (TellsSlot others Functions (IsCounted most_functions)) → Nothing (Means others word.Soak)
no_functions others none _ (soak m k s f) = none k f

-- ---- what is known of a run

steps_within : (others : List (List ℕ)) (slot : Slot) (n : ℕ) → Sets others slot IsSteps default_steps n → n ≤ most_steps
steps_within others slot n (given value g is) = is.limit
steps_within others slot n (left_out none e) = omega arith

size_within : (others : List (List ℕ)) (slot : Slot) (n : ℕ) → Sets others slot IsSize default_size n → (n ≤ most_room) × (n % 16 ≡ 0)
size_within others slot n (given value g is) = (is.limit, is.aligned)
size_within others slot n (left_out none e) = (omega arith, rw e refl)

pub within : (others : List (List ℕ)) (r : RunTree) → IsRun others r → WithinLimits r
within others r is =
    let stack = size_within others Stack r.stack is.stack in
    let heap = size_within others Heap r.heap is.heap in
    record {
      entry = is.entry_name;
      steps = steps_within others Steps r.steps is.steps;
      stack = stack.0;
      stack_aligned = stack.1;
      heap = heap.0;
      heap_aligned = heap.1;
    }

pub within_fuel : (others : List (List ℕ)) (c : CheckTree) → IsCheck others c → WithinFuel c
within_fuel others c is = record { entry = is.entry_name; fuel = steps_within others Fuel c.fuel is.fuel }

counted_within : (others : List (List ℕ)) (slot : Slot) (limit default n : ℕ) → 1 ≤ default → default ≤ limit
    → Sets others slot (IsCounted limit) default n → (1 ≤ n) × (n ≤ limit)
counted_within others slot limit default n some few (given value g is) = (is.some, is.limited)
counted_within others slot limit default n some few (left_out none e) = (omega (arith, e), omega (arith, e))

means_within : (others : List (List ℕ)) (command : CommandWord) (c : CommandTree) → Means others command c → KeepsLimits c
means_within others _ _ (compile choices jobs a s) = counted_within others Jobs most_jobs default_jobs jobs (omega arith) (omega arith) s
means_within others _ _ (run r is) = within others r is
means_within others _ _ (check c is) = within_fuel others c is
means_within others _ _ (list choices stage a is) = tt
means_within others _ _ (soak m k s f) = (s.reads.limit, f.reads.some, f.reads.limited)

pub command_within : (words : List (List ℕ)) (c : CommandTree) → IsCommand words c → KeepsLimits c
command_within words c is = means_within is.others is.command c is.means

pub command_of : (command : CommandWord) (words : List (List ℕ)) (first : List ℕ) (others : List (List ℕ)) (r : Result Command WordsError)
    → words ≡ first ∷ others → first ≡ command_text command → IsForm command others
    → IfOk r (λ c. Means others command (view c)) → IfOk r (λ c. IsCommand words (view c))
command_of command words first others (Ok c) e named form means = is_command command words first others (view c) e named form means
command_of command words first others (Err why) e named form means = tt

pub only_of : (words : List (List ℕ)) (r : Result Command WordsError) → IfOk r (λ c. IsCommand words (view c))
    → IfOk r (λ c. (other : CommandTree) → IsCommand words other → other ≡ view c)
only_of words (Ok c) is = λ other o. command-unique words other (view c) o is
only_of words (Err why) is = tt

pub limits_of : (words : List (List ℕ)) (r : Result Command WordsError) → IfOk r (λ c. IsCommand words (view c)) → IfOk r (λ c. KeepsLimits (view c))
limits_of words (Ok c) is = command_within words (view c) is
limits_of words (Err why) is = tt

-- the words of a command have the form of one
pub command-formed : (words : List (List ℕ)) (command : CommandTree) → IsCommand words command → AreCommandWords words
command-formed words command is = record { command = is.command; others = is.others; begins = is.begins; form = is.form }

-- ---- moves by the three texts in turn

no_moves : (text : List ℕ) → (text ≡ codes "none" → ⊥) → (text ≡ codes "every" → ⊥) → Nothing (SeedsMoves text) → Nothing (IsMoves text)
no_moves text a b is m (never t e) = a t
no_moves text a b is m (every t e) = b t
no_moves text a b is m (seeded s) = is m s

pub seeded_or_none : (text : List ℕ) (o : Option Moves) → (text ≡ codes "none" → ⊥) → (text ≡ codes "every" → ⊥)
    → MatchOption o (Nothing (SeedsMoves text)) (λ m. SeedsMoves text m)
    → MatchOption o (Nothing (IsMoves text)) (λ m. IsMoves text m)
seeded_or_none text (Some m) a b is = seeded is
seeded_or_none text None a b is = no_moves text a b is
