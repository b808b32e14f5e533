-- What the parser makes of words of the form.
use Rattle.std.proofs.Common.{option_and_then, slice_get, All, Contains, count_by, IsTrue, ◌≡◌, ◌∙◌, ◌<◌, ◌≤◌, ◌+◌, ◌*◌, ◌==◌, ◌&&◌, ◌||◌, if◌then◌else◌, ℕ, Bool, true, false, not, cond, zero, suc, refl, sym, ap, ap₂, subst, arith, List, [], ◌∷◌, ◌++◌, map, length, get_or, codes, fold, Option, Some, None, is_some, unwrap_or, bytes_eq, nat_eq, ◌⊎◌, inl, inr, append-nil, append_assoc, eqb-true}
use Rattle.std.specs.List.{find, list_any}
use Rattle.std.specs.Option.{option_map_or}
use Rattle.std.proofs.lemmas.Bool.{both_ways, cases_Bool}
use Rattle.std.proofs.lemmas.Slice.Eq.{bytes_eq-Decides}
use Rattle.std.proofs.lemmas.List.{map-append}
use Rattle.std.proofs.lemmas.List.Elements.{All-head, All-tail}
use Rattle.std.proofs.lemmas.List.Sums.{sum_by-cons}
use Rattle.clap.specs.Lexer.{long_of, short_of}
use Rattle.clap.specs.Walk.{Row, Rule, Text, Walk, Held, idle, walked, walk, walk_from, nothing_held, settled_rows, used, used_by_id, with_values, without, at_row, has_row, more_values, arg_by_id, arg_by_index, arg_by_long, after_step, after_flag, long_met, long_or_other, trailing, short_or_plain, to_positional, pushed, settled, is_pending, finished, rows_after, first_of, Step, Outcome}
use Rattle.clap.specs.Simple.{App, Shape, new_shape, built, names_of, entered, is_simple, subcommand_of}
use Rattle.clap.specs.Takes.{takes, walk_passes, turn_passes, settle_passes, use_passes, flag_word_passes, bundle_passes, positional_passes, long_passes, step_passes, level_passes, entered_passes, is_valid}
use Rattle.clap.proofs.WalkLemmas.{walk_stopped}
use Rattle.clap.specs.declared.builder.action.ArgAction.TheVariants as action
use Rattle.clap.specs.declared.builder.value_parser.ValueParser.TheVariants as parser
use Rattle.clap.specs.declared.builder.value_parser.Reading.TheVariants.{AsWritten}
use Rattle.clap.specs.declared.parser.matches.ValueSource.TheVariants.{CommandLine}
use Rattle.command_line.specs.declared.form.CommandWord.{CommandWord}
use Rattle.command_line.specs.declared.form.CommandWord.TheVariants as word
use Rattle.command_line.specs.declared.form.Slot.{Slot}
use Rattle.command_line.specs.declared.form.Slot.TheVariants.{Plain, Args, Answers, Steps, Stack, Heap, Moves, Fuel, Jobs, Alloc, Schedule, Seed, Functions}
use Rattle.command_line.specs.Words.{command_text, slots_of_command, prefix_of, fills_slot, GivesSlot}
use Rattle.command_line.proofs.Gives.{starts_cut}
use Rattle.command_line.specs.Program.{id_of, default_texts, option_rule, slot_rule, program}

-- ---- a slot's name identifies the slot

abbrev slot_by : ℕ → Slot
slot_by n = if n == 28530 then Plain else (if n == 29287 then Args else (if n == 28275 then Answers else (if n == 29797 then Steps
    else (if n == 29793 then Stack else (if n == 25953 then Heap else (if n == 28534 then Moves else (if n == 30053 then Fuel
    else (if n == 28514 then Jobs else (if n == 27756 then Alloc else (if n == 25448 then Schedule else (if n == 25957 then Seed else Functions)))))))))))

-- its second byte and its third are enough
abbrev mark : List ℕ → ℕ
mark name = 256 * get_or name 1 0 + get_or name 2 0

told_slot : (slot : Slot) → slot_by (mark (id_of slot)) ≡ slot
told_slot Plain = refl
told_slot Args = refl
told_slot Answers = refl
told_slot Steps = refl
told_slot Stack = refl
told_slot Heap = refl
told_slot Moves = refl
told_slot Fuel = refl
told_slot Jobs = refl
told_slot Alloc = refl
told_slot Schedule = refl
told_slot Seed = refl
told_slot Functions = refl

pub slot-unique : (s t : Slot) → id_of s ≡ id_of t → s ≡ t
slot-unique s t e = sym (told_slot s) ∙ (ap (λ name. slot_by (mark name)) e ∙ told_slot t)

-- ---- the command as it is built

abbrev built_option : Text → List Text → Rule
built_option id defaults = record (option_rule id defaults) {
  action = Some action.Set;
  range = Some (record { start_inclusive = 1; end_inclusive = 1 });
  parser = Some parser.String;
}

abbrev built_plain : Rule
built_plain = record (slot_rule Plain) {
  action = Some action.Set;
  range = Some (record { start_inclusive = 1; end_inclusive = 1 });
  parser = Some parser.String;
  index = Some 1;
}

abbrev pub built_rule : Slot → Rule
built_rule Plain = built_plain
built_rule slot = built_option (id_of slot) (default_texts slot)

abbrev pub rules_at : CommandWord → List Rule
rules_at command = map built_rule (slots_of_command command)

abbrev pub level_shape : Text → List Rule → Shape
level_shape name rules = record (new_shape name) {
  rules = rules;
  no_binary_name = true;
  disable_help_flag = true;
  disable_help_subcommand = true;
  is_built = true;
}

-- ---- what is known of the words of a slot

pub data Known (rules : List Rule) : Slot → Type 0 where
  plain : arg_by_index rules 1 ≡ Some built_plain → arg_by_id rules (id_of Plain) ≡ Some built_plain → Known rules Plain
  option : (slot : Slot)
      → ((v : Text) → long_of (prefix_of slot ++ v) ≡ Some (id_of slot, Some v))
      → ((v : Text) → bytes_eq (prefix_of slot ++ v) (45 ∷ 45 ∷ []) ≡ false)
      → arg_by_long rules (id_of slot) ≡ Some (built_option (id_of slot) (default_texts slot))
      → Known rules slot

abbrev pub ForEach : (Slot → Type 0) → List Slot → Type 0
ForEach P [] = Unit {0}
ForEach P (slot ∷ slots) = P slot × ForEach P slots

pub known_each : (command : CommandWord) → ForEach (Known (rules_at command)) (slots_of_command command)
known_each word.Compile = (option Jobs (λ v. refl) (λ v. refl) refl, (option Alloc (λ v. refl) (λ v. refl) refl, (option Schedule (λ v. refl) (λ v. refl) refl, tt)))
known_each word.Run = (
  plain refl refl,
  (
    option Args (λ v. refl) (λ v. refl) refl,
    (
      option Answers (λ v. refl) (λ v. refl) refl,
      (
        option Steps (λ v. refl) (λ v. refl) refl,
        (
          option Stack (λ v. refl) (λ v. refl) refl,
          (
            option Heap (λ v. refl) (λ v. refl) refl,
            (option Moves (λ v. refl) (λ v. refl) refl, tt),
          ),
        ),
      ),
    ),
  ),
)
known_each word.Check = (
  plain refl refl,
  (
    option Args (λ v. refl) (λ v. refl) refl,
    (
      option Answers (λ v. refl) (λ v. refl) refl,
      (
        option Fuel (λ v. refl) (λ v. refl) refl,
        (option Alloc (λ v. refl) (λ v. refl) refl, (option Schedule (λ v. refl) (λ v. refl) refl, tt)),
      ),
    ),
  ),
)
known_each word.List = (plain refl refl, (option Alloc (λ v. refl) (λ v. refl) refl, (option Schedule (λ v. refl) (λ v. refl) refl, tt)))
known_each word.Soak = (option Seed (λ v. refl) (λ v. refl) refl, (option Functions (λ v. refl) (λ v. refl) refl, tt))

-- ---- what is built and entered

abbrev whole : App
whole = built program

simple : is_simple program ≡ true
simple = refl

entered_is : (command : CommandWord) (others : List Text)
    → entered whole (Some (command_text command, others)) ≡ Some (command_text command, rows_after (rules_at command) [] others)
entered_is word.Compile others = refl
entered_is word.Run others = refl
entered_is word.Check others = refl
entered_is word.List others = refl
entered_is word.Soak others = refl

entered_passes_is : (command : CommandWord) (others : List Text)
    → entered_passes whole (Some (command_text command, others)) ≡ level_passes (level_shape (command_text command) (rules_at command)) [] nothing_held others false
entered_passes_is word.Compile others = refl
entered_passes_is word.Run others = refl
entered_passes_is word.Check others = refl
entered_passes_is word.List others = refl
entered_passes_is word.Soak others = refl

-- ---- the first word

stopped_at : (command : CommandWord) (others : List Text)
    → ◌≡◌ {A = Walk} (walk [] (names_of whole) nothing_held (command_text command ∷ others)) (record (walk_from nothing_held) { stopped = Some (command_text command, others) })
unfolding walked
stopped_at word.Compile others = sym (walk_stopped [] (names_of whole) (walk_from nothing_held) (codes "compile") [] others)
stopped_at word.Run others = sym (walk_stopped [] (names_of whole) (walk_from nothing_held) (codes "run") [] others)
stopped_at word.Check others = sym (walk_stopped [] (names_of whole) (walk_from nothing_held) (codes "check") [] others)
stopped_at word.List others = sym (walk_stopped [] (names_of whole) (walk_from nothing_held) (codes "list") [] others)
stopped_at word.Soak others = sym (walk_stopped [] (names_of whole) (walk_from nothing_held) (codes "soak") [] others)

stopped_passes : (w : Walk) (name : Text) (seen words : List Text)
    → walk_passes whole.top (names_of whole) (record w { stopped = Some (name, seen) }) words ≡ true
unfolding walked walk_passes
stopped_passes w name seen [] = refl
stopped_passes w name seen (x ∷ xs) = stopped_passes w name (seen ++ x ∷ []) xs

top_passes : (command : CommandWord) (others : List Text)
    → walk_passes whole.top (names_of whole) (walk_from nothing_held) (command_text command ∷ others) ≡ true
unfolding walked walk_passes
top_passes word.Compile others = stopped_passes (walk_from nothing_held) (codes "compile") [] others
top_passes word.Run others = stopped_passes (walk_from nothing_held) (codes "run") [] others
top_passes word.Check others = stopped_passes (walk_from nothing_held) (codes "check") [] others
top_passes word.List others = stopped_passes (walk_from nothing_held) (codes "list") [] others
top_passes word.Soak others = stopped_passes (walk_from nothing_held) (codes "soak") [] others

pub subcommand_is : (command : CommandWord) (others : List Text)
    → subcommand_of program (command_text command ∷ others) ≡ Some (command_text command, rows_after (rules_at command) [] others)
subcommand_is command others = ap (λ (w : Walk). entered whole w.stopped) (stopped_at command others) ∙ entered_is command others

abbrev taken_by : Walk → Bool → Bool
taken_by w passes = is_simple program && (entered_passes whole w.stopped
    && (passes && (settle_passes [] false w.held && (true && is_valid whole.top (finished [] w.held) (is_some (entered whole w.stopped))))))

pub is_taken : (command : CommandWord) (others : List Text)
    → level_passes (level_shape (command_text command) (rules_at command)) [] nothing_held others false ≡ true → takes program (command_text command ∷ others) ≡ true
is_taken command others e =
    ap₂ taken_by (stopped_at command others) (top_passes command others)
    ∙ ap (λ b. b && true) (entered_passes_is command others ∙ e)

-- ---- rows

abbrev row_with : Text → Text → Row
row_with id v = record { id = id; values = v ∷ []; count = None; source = Some CommandLine; reading = AsWritten }

pub at_row_fresh : (id : Text) (change : Row → List Row) (missing rows : List Row) → has_row id rows ≡ false → at_row id change missing rows ≡ rows ++ missing
at_row_fresh id change missing [] e = refl
at_row_fresh id change missing (r ∷ rs) e = go (bytes_eq r.id id) e (at_row_fresh id change missing rs)
  where
    go : (b : Bool) → (b || has_row id rs) ≡ false → (has_row id rs ≡ false → at_row id change missing rs ≡ rs ++ missing)
        → cond b (change r ++ rs) (r ∷ at_row id change missing rs) ≡ r ∷ (rs ++ missing)
    go true f rest = absurd (both_ways true f refl)
    go false f rest = ap (λ xs. r ∷ xs) (rest f)

with_fresh : (id : Text) (v : Text) (rows : List Row) → has_row id rows ≡ false
    → with_values id AsWritten CommandLine (v ∷ []) (without id rows) ≡ rows ++ row_with id v ∷ []
with_fresh id v rows e =
    let kept : without id rows ≡ rows = at_row_fresh id (λ _. []) [] rows e ∙ append-nil rows in
    ap (λ xs. with_values id AsWritten CommandLine (v ∷ []) xs) kept
    ∙ at_row_fresh id (more_values CommandLine (v ∷ [])) (row_with id v ∷ []) rows e

pub has_row-append : (id : Text) (r : Row) (rows : List Row) → has_row id (rows ++ r ∷ []) ≡ (has_row id rows || bytes_eq r.id id)
has_row-append id r [] = go (bytes_eq r.id id)
  where
    go : (b : Bool) → (b || false) ≡ b
    go true = refl
    go false = refl
has_row-append id r (x ∷ xs) = go (bytes_eq x.id id) (has_row-append id r xs)
  where
    go : (b : Bool) → has_row id (xs ++ r ∷ []) ≡ (has_row id xs || bytes_eq r.id id)
        → (b || has_row id (xs ++ r ∷ [])) ≡ ((b || has_row id xs) || bytes_eq r.id id)
    go true e = refl
    go false e = e

or_false : (a b : Bool) → (a || b) ≡ false → (a ≡ false) × (b ≡ false)
or_false true b e = absurd (both_ways true e refl)
or_false false b e = (refl, e)

and_none : (a : Bool) → (a && false) ≡ false
and_none true = refl
and_none false = refl

-- ---- the walk over words of the form

abbrev held_at : List Row → Option (Text × List Text) → Held
held_at rows pending = record { rows = rows; pending = pending; skip = 0 }

abbrev stand : List Row → Option (Text × List Text) → ℕ → Walk
stand rows pending position = record { held = held_at rows pending; waiting = idle; position = position; is_trailing = false; stopped = None }

-- where the walk is after words whose rows these are
pub record At (rules : List Rule) (w : Walk) (rows : List Row) : Type 0 where
  pub kept : List Row
  pub pending : Option (Text × List Text)
  pub position : ℕ
  pub is : ◌≡◌ {A = Walk} w (stand kept pending position)
  pub rows_are : settled_rows rules pending kept ≡ rows
  pub passes : settle_passes rules false (held_at kept pending) ≡ true
  pub first : has_row (id_of Plain) rows ≡ false → position ≡ 1

-- a plain word is no flag
record NoFlag (text : Text) : Type 0 where
  dashes : bytes_eq text (45 ∷ 45 ∷ []) ≡ false
  long : long_of text ≡ None
  short : short_of text ≡ None

no_flag : (text : Text) → fills_slot Plain text ≡ true → NoFlag text
no_flag [] e = record { dashes = refl; long = refl; short = refl }
no_flag (x ∷ xs) e = elim (cases_Bool (nat_eq x 45)) [
  | inl dash ↦
      let same : x ≡ 45 = eqb-true x 45 dash in
      let P : ℕ → Type 0 = λ b. fills_slot Plain (b ∷ xs) ≡ true in
      let clash : false ≡ true = subst P same e in absurd (both_ways false refl clash)
  | inr other ↦ record { dashes = rw other refl; long = rw other refl; short = rw other refl }
]

-- ---- words as rows

abbrev key_of : Option (Text × Option Text) → Text → Text × Text
key_of None word = (id_of Plain, word)
key_of (Some p) word = (p.0, unwrap_or p.1 [])

abbrev key : Text → Text × Text
key word = key_of (long_of word) word

abbrev pub row_for : Text → Row
row_for word = row_with (key word).0 (key word).1

key_is : (rules : List Rule) (slot : Slot) (v : Text) → Known rules slot → fills_slot slot (prefix_of slot ++ v) ≡ true
    → ◌≡◌ {A = Text × Text} (key (prefix_of slot ++ v)) (id_of slot, v)
key_is rules slot v (option _ long dashes found) fits = ap (λ o. key_of o (prefix_of slot ++ v)) (long v)
key_is rules _ v (plain found by_id) fits = ap (λ o. key_of o v) (no_flag v fits).long

-- a word is for a slot for which no other of the words is
pub record Cut (rules : List Rule) (all : List Text) (text : Text) : Type 0 where
  slot : Slot
  value : Text
  known : Known rules slot
  is : text ≡ prefix_of slot ++ value
  fits : fills_slot slot (prefix_of slot ++ value) ≡ true
  few : count_by (fills_slot slot) all ≤ 1

cut_key : (rules : List Rule) (all : List Text) (text : Text) (cut : Cut rules all text) → ◌≡◌ {A = Text × Text} (key text) (id_of cut.slot, cut.value)
cut_key rules all text cut = ap key cut.is ∙ key_is rules cut.slot cut.value cut.known cut.fits

abbrev AllCut : List Rule → List Text → List Text → Type 0
AllCut rules all [] = Unit {0}
AllCut rules all (x ∷ xs) = Cut rules all x × AllCut rules all xs

-- each word's slot has no row yet when the walk comes to it
abbrev Fresh : List Text → List Text → Type 0
Fresh done [] = Unit {0}
Fresh done (x ∷ xs) = (has_row (key x).0 (map row_for done) ≡ false) × Fresh (done ++ x ∷ []) xs

module _ (rules : List Rule) (name : Text) where
  abbrev level : Shape
  level = level_shape name rules

  -- what becomes of the walk, by what the word is
  abbrev after : Text → List Row → Option (Text × List Text) → ℕ → Bool → Option (Text × Option Text) → Walk
  after word rows pending position dashes long =
      let h = held_at rows pending in
      let met : Held × Step = if dashes then (h, trailing position) else long_or_other rules idle word long h in
      after_step rules word (stand rows pending position) met.0 met.1

  abbrev turn : Text → List Row → Option (Text × List Text) → ℕ → Bool → Option (Text × Option Text) → Bool
  turn word rows pending position dashes long =
      let h = held_at rows pending in
      let met : Held × Step = if dashes then (h, trailing position) else long_or_other rules idle word long h in
      (dashes || flag_word_passes rules false long word h) && step_passes level position met.0 met.1

  -- an option, by the rule that its name has
  abbrev after_long : Text → List Row → Option (Text × List Text) → ℕ → Text → Option Rule → Walk
  after_long word rows pending position v found =
      let h = held_at rows pending in
      let met : Held × Outcome = long_met rules found (Some v) h in
      let flag : Held × Step = after_flag rules idle word met.0 met.1 in
      after_step rules word (stand rows pending position) flag.0 flag.1

  abbrev turn_long : Text → List Row → Option (Text × List Text) → ℕ → Text → Option Rule → Bool
  turn_long word rows pending position v found =
      let h = held_at rows pending in
      let met : Held × Outcome = long_met rules found (Some v) h in
      let flag : Held × Step = after_flag rules idle word met.0 met.1 in
      long_passes rules false found (Some v) h && step_passes level position flag.0 flag.1

  steps_option : (id : Text) (defaults : List Text) (word v : Text) (rows : List Row) (pending : Option (Text × List Text)) (position : ℕ)
      → bytes_eq word (45 ∷ 45 ∷ []) ≡ false → long_of word ≡ Some (id, Some v) → arg_by_long rules id ≡ Some (built_option id defaults)
      → ◌≡◌ {A = Walk} (walked rules [] (stand rows pending position) word)
      (stand (used (built_option id defaults) (v ∷ []) (settled_rows rules pending rows)) None position)
  unfolding walked
  steps_option id defaults word v rows pending position dashes long found =
      ap₂ (after word rows pending position) dashes long ∙ ap (after_long word rows pending position v) found

  use_passes-fresh : (id : Text) (defaults : List Text) (v : Text) (rows : List Row) → has_row id rows ≡ false
      → use_passes false (built_option id defaults) (v ∷ []) rows ≡ true
  use_passes-fresh id defaults v rows fresh = ap (λ b. (not b || false) && true) fresh

  turns_option : (id : Text) (defaults : List Text) (word v : Text) (rows : List Row) (pending : Option (Text × List Text)) (position : ℕ)
      → bytes_eq word (45 ∷ 45 ∷ []) ≡ false → long_of word ≡ Some (id, Some v) → arg_by_long rules id ≡ Some (built_option id defaults)
      → settle_passes rules false (held_at rows pending) ≡ true → has_row id (settled_rows rules pending rows) ≡ false
      → turn_passes level [] (stand rows pending position) word ≡ true
  turns_option id defaults word v rows pending position dashes long found settles fresh =
      ap₂ (turn word rows pending position) dashes long ∙ ap (turn_long word rows pending position v) found
      ∙ ap₂ (λ a b. (a && b) && true) settles (use_passes-fresh id defaults v (settled_rows rules pending rows) fresh)

  -- a plain word
  abbrev after_short : Text → List Row → Option (Text × List Text) → Option Text → Walk
  after_short word rows pending short =
      let h = held_at rows pending in
      let met : Held × Step = short_or_plain rules idle word short h in
      after_step rules word (stand rows pending 1) met.0 met.1

  abbrev after_plain : Text → List Row → Option (Text × List Text) → Option Rule → Walk
  after_plain word rows pending found = to_positional rules found word (stand rows pending 1) (held_at rows pending)

  abbrev after_pending : Text → List Row → Option (Text × List Text) → Bool → Walk
  after_pending word rows pending b =
      record (stand rows pending 2) { held = pushed (id_of Plain) word (if b then held_at rows pending else settled rules (held_at rows pending)) }

  abbrev turn_short : Text → List Row → Option (Text × List Text) → Option Text → Bool
  turn_short word rows pending short =
      let h = held_at rows pending in
      let met : Held × Step = short_or_plain rules idle word short h in
      option_map_or (λ flags. bundle_passes rules false flags h) short true && step_passes level 1 met.0 met.1

  abbrev turn_plain : List Row → Option (Text × List Text) → Option Rule → Bool
  turn_plain rows pending found = option_map_or (λ a. positional_passes rules false a (held_at rows pending)) found false

  steps_plain : (word : Text) (rows : List Row) (pending : Option (Text × List Text)) → NoFlag word → arg_by_index rules 1 ≡ Some built_plain
      → ◌≡◌ {A = Walk} (walked rules [] (stand rows pending 1) word) (stand (settled_rows rules pending rows) (Some (id_of Plain, word ∷ [])) 2)
  unfolding walked
  steps_plain word rows pending n found =
      ap₂ (after word rows pending 1) n.dashes n.long ∙ ap (after_short word rows pending) n.short
      ∙ ap (after_plain word rows pending) found ∙ ap (after_pending word rows pending) (and_none (is_pending built_plain pending))

  turns_plain : (word : Text) (rows : List Row) (pending : Option (Text × List Text)) → NoFlag word → arg_by_index rules 1 ≡ Some built_plain
      → settle_passes rules false (held_at rows pending) ≡ true → turn_passes level [] (stand rows pending 1) word ≡ true
  turns_plain word rows pending n found settles =
      ap₂ (turn word rows pending 1) n.dashes n.long ∙ ap (turn_short word rows pending) n.short
      ∙ ap (turn_plain rows pending) found ∙ ap₂ (λ a b. a || b) (and_none (is_pending built_plain pending)) settles

  -- a word of a slot that has no row yet
  at_slot : (slot : Slot) (v : Text) (kept : List Row) (pending : Option (Text × List Text)) (position : ℕ) (rows : List Row)
      → Known rules slot → fills_slot slot (prefix_of slot ++ v) ≡ true
      → settled_rows rules pending kept ≡ rows → settle_passes rules false (held_at kept pending) ≡ true
      → (has_row (id_of Plain) rows ≡ false → position ≡ 1) → has_row (id_of slot) rows ≡ false
      → At rules (walked rules [] (stand kept pending position) (prefix_of slot ++ v)) (rows ++ row_with (id_of slot) v ∷ [])
      × (turn_passes level [] (stand kept pending position) (prefix_of slot ++ v) ≡ true)
  at_slot slot v kept pending position rows (option _ long dashes found) fits settled_are settles first fresh =
      let id = id_of slot in
      let defaults = default_texts slot in
      let word = prefix_of slot ++ v in
      let fresh_kept : has_row id (settled_rows rules pending kept) ≡ false = ap (has_row id) settled_are ∙ fresh in (
        record {
          kept = used (built_option id defaults) (v ∷ []) (settled_rows rules pending kept);
          pending = None;
          position = position;
          is = steps_option id defaults word v kept pending position (dashes v) (long v) found;
          rows_are = ap (used (built_option id defaults) (v ∷ [])) settled_are ∙ with_fresh id v rows fresh;
          passes = refl;
          first = λ none. first (or_false _ _ (sym (has_row-append (id_of Plain) (row_with id v) rows) ∙ none)).0;
        },
        turns_option id defaults word v kept pending position (dashes v) (long v) found settles fresh_kept,
      )
  at_slot _ v kept pending position rows (plain found by_id) fits settled_are settles first fresh =
      let id = id_of Plain in
      let n = no_flag v fits in
      let one = first fresh in
      let now = settled_rows rules pending kept in
      let fresh_kept : has_row id now ≡ false = ap (has_row id) settled_are ∙ fresh in (
        record {
          kept = now;
          pending = Some (id, v ∷ []);
          position = 2;
          is = ap (λ k. walked rules [] (stand kept pending k) v) one ∙ steps_plain v kept pending n found;
          rows_are = ap (λ o. used_by_id o (v ∷ []) now) by_id
              ∙ (ap (used built_plain (v ∷ [])) settled_are ∙ with_fresh id v rows fresh);
          passes = ap (λ o. option_map_or (λ a. use_passes false a (v ∷ []) now) o true) by_id ∙ ap (λ b. (not b || false) && true) fresh_kept;
          first = λ none. absurd (both_ways true (or_false _ _ (sym (has_row-append id (row_with id v) rows) ∙ none)).1 refl);
        },
        ap (λ k. turn_passes level [] (stand kept pending k) v) one ∙ turns_plain v kept pending n found settles,
      )

  turn_more : (all : List Text) (w : Walk) (rows : List Row) → At rules w rows → (text : Text) → Cut rules all text → has_row (key text).0 rows ≡ false
      → At rules (walked rules [] w text) (rows ++ row_for text ∷ []) × (turn_passes level [] w text ≡ true)
  turn_more all w rows at text cut fresh =
      let word = prefix_of cut.slot ++ cut.value in
      let is : ◌≡◌ {A = Text × Text} (key word) (id_of cut.slot, cut.value) = key_is rules cut.slot cut.value cut.known cut.fits in
      let whole_key = cut_key rules all text cut in
      let none : has_row (id_of cut.slot) rows ≡ false = sym (ap (λ (k : Text × Text). has_row k.0 rows) whole_key) ∙ fresh in
      let start = stand at.kept at.pending at.position in
      let Q : Walk → Text → Row → Type 0 = λ v t r. At rules (walked rules [] v t) (rows ++ r ∷ []) × (turn_passes level [] v t ≡ true) in
      let there : Q start word (row_with (id_of cut.slot) cut.value) =
      at_slot cut.slot cut.value at.kept at.pending at.position rows cut.known cut.fits at.rows_are at.passes at.first none in
      let as_row : Q start word (row_for word) = subst (λ r. Q start word r) (sym (ap (λ (k : Text × Text). row_with k.0 k.1) is)) there in
      let as_text : Q start text (row_for text) = subst (λ t. Q start t (row_for t)) (sym cut.is) as_row in
      subst (λ v. Q v text (row_for text)) (sym at.is) as_text

  pub goes : (all words done : List Text) (w : Walk) → At rules w (map row_for done) → AllCut rules all words → Fresh done words
      → At rules (fold (walked rules []) w words) (map row_for (done ++ words)) × (walk_passes level [] w words ≡ true)
  unfolding walk_passes
  goes all [] done w at cuts fresh = (subst (λ d. At rules w (map row_for d)) (sym (append-nil done)) at, refl)
  goes all (x ∷ xs) done w at cuts fresh =
      let step = turn_more all w (map row_for done) at x cuts.0 fresh.0 in
      let P : List Row → Type 0 = λ rows. At rules (walked rules [] w x) rows in
      let now : At rules (walked rules [] w x) (map row_for (done ++ x ∷ [])) = subst P (sym (map-append row_for done (x ∷ []))) step.0 in
      let rest = goes all xs (done ++ x ∷ []) (walked rules [] w x) now cuts.1 fresh.1 in
      let Q : List Text → Type 0 = λ d. At rules (fold (walked rules []) w (x ∷ xs)) (map row_for d) in
      (subst Q (append_assoc done (x ∷ []) xs) rest.0, ap₂ (λ a b. a && b) step.1 rest.1)

-- ---- counting

count-cons : (p : Text → Bool) (x : Text) (xs : List Text) → count_by p (x ∷ xs) ≡ cond (p x) 1 0 + count_by p xs
count-cons p x xs = sum_by-cons (λ y. cond (p y) 1 0) x xs

one-if : (b : Bool) → b ≡ true → ◌≡◌ {A = ℕ} (cond b 1 0) 1
one-if b e = rw e refl

count-append : (p : Text → Bool) (xs ys : List Text) → count_by p (xs ++ ys) ≡ count_by p xs + count_by p ys
count-append p [] ys = omega arith
count-append p (x ∷ xs) ys = omega (arith, count-cons p x (xs ++ ys), count-cons p x xs, count-append p xs ys)

own_slot : (rules : List Rule) (all : List Text) (text : Text) (cut : Cut rules all text) (slot : Slot) → bytes_eq (key text).0 (id_of slot) ≡ true → cut.slot ≡ slot
own_slot rules all text cut slot same =
    slot-unique cut.slot slot (sym (ap (λ (k : Text × Text). k.0) (cut_key rules all text cut)) ∙ (bytes_eq-Decides (key text).0 (id_of slot)).0 same)

own_fills : (rules : List Rule) (all : List Text) (text : Text) (cut : Cut rules all text) → fills_slot cut.slot text ≡ true
own_fills rules all text cut = ap (fills_slot cut.slot) cut.is ∙ cut.fits

counted_row : (rules : List Rule) (all done : List Text) → AllCut rules all done → (slot : Slot) → has_row (id_of slot) (map row_for done) ≡ true
    → 1 ≤ count_by (fills_slot slot) done
counted_row rules all [] cuts slot e = absurd (both_ways false refl e)
counted_row rules all (x ∷ xs) cuts slot e = elim (cases_Bool (bytes_eq (key x).0 (id_of slot))) [
  | inl same ↦
      let P : Slot → Type 0 = λ s. fills_slot s x ≡ true in
      let passes : fills_slot slot x ≡ true = subst P (own_slot rules all x cuts.0 slot same) (own_fills rules all x cuts.0) in
      omega (arith, count-cons (fills_slot slot) x xs, one-if (fills_slot slot x) passes)
  | inr other ↦
      let rest : has_row (id_of slot) (map row_for xs) ≡ true = sym (ap (λ b. b || has_row (id_of slot) (map row_for xs)) other) ∙ e in
      omega (arith, count-cons (fills_slot slot) x xs, counted_row rules all xs cuts.1 slot rest)
]

cut-push : (rules : List Rule) (all done : List Text) (x : Text) → AllCut rules all done → Cut rules all x → AllCut rules all (done ++ x ∷ [])
cut-push rules all [] x cuts cut = (cut, tt)
cut-push rules all (y ∷ ys) x cuts cut = (cuts.0, cut-push rules all ys x cuts.1 cut)

pub fresh_words : (rules : List Rule) (all words done : List Text) → all ≡ done ++ words → AllCut rules all done → AllCut rules all words → Fresh done words
fresh_words rules all [] done e dones cuts = tt
fresh_words rules all (x ∷ xs) done e dones cuts =
    let slot = cuts.0.slot in
    let is = cut_key rules all x cuts.0 in
    let new : has_row (key x).0 (map row_for done) ≡ false = elim (cases_Bool (has_row (key x).0 (map row_for done))) [
      | inl old ↦
          let before : has_row (id_of slot) (map row_for done) ≡ true = sym (ap (λ (k : Text × Text). has_row k.0 (map row_for done)) is) ∙ old in
          let sum : count_by (fills_slot slot) all ≡ count_by (fills_slot slot) done + count_by (fills_slot slot) (x ∷ xs) =
          ap (count_by (fills_slot slot)) e ∙ count-append (fills_slot slot) done (x ∷ xs) in
          absurd (omega (
            arith,
            sum,
            counted_row rules all done dones slot before,
            count-cons (fills_slot slot) x xs,
            one-if (fills_slot slot x) (own_fills rules all x cuts.0),
            cuts.0.few,
          ))
      | inr no' ↦ no'
    ] in
    (new, fresh_words rules all xs (done ++ x ∷ []) (e ∙ sym (append_assoc done (x ∷ []) xs)) (cut-push rules all done x dones cuts.0) cuts.1)

-- ---- the form gives each word its slot

pub cut_value : (slot : Slot) (text : Text) → fills_slot slot text ≡ true → (value : Text) × (text ≡ prefix_of slot ++ value)
cut_value Plain text e = (text, refl)
cut_value Args text e = starts_cut (prefix_of Args) text e
cut_value Answers text e = starts_cut (prefix_of Answers) text e
cut_value Steps text e = starts_cut (prefix_of Steps) text e
cut_value Stack text e = starts_cut (prefix_of Stack) text e
cut_value Heap text e = starts_cut (prefix_of Heap) text e
cut_value Moves text e = starts_cut (prefix_of Moves) text e
cut_value Fuel text e = starts_cut (prefix_of Fuel) text e
cut_value Jobs text e = starts_cut (prefix_of Jobs) text e
cut_value Alloc text e = starts_cut (prefix_of Alloc) text e
cut_value Schedule text e = starts_cut (prefix_of Schedule) text e
cut_value Seed text e = starts_cut (prefix_of Seed) text e
cut_value Functions text e = starts_cut (prefix_of Functions) text e

abbrev Fit : List Rule → List Text → Slot → Type 0
Fit rules all slot = Known rules slot × (count_by (fills_slot slot) all ≤ 1)

pub fit_each : (rules : List Rule) (all : List Text) (slots : List Slot) → ForEach (Known rules) slots → All (λ slot. count_by (fills_slot slot) all ≤ 1) slots
    → ForEach (Fit rules all) slots
fit_each rules all [] known few = tt
fit_each rules all (s ∷ ss) known few =
    let P : Slot → Type 0 = λ slot. count_by (fills_slot slot) all ≤ 1 in
    ((known.0, All-head P s ss few), fit_each rules all ss known.1 (All-tail P s ss few))

some_fit : (rules : List Rule) (all : List Text) (slots : List Slot) → ForEach (Fit rules all) slots → (text : Text)
    → list_any (λ slot. fills_slot slot text) slots ≡ true → Cut rules all text
some_fit rules all [] fits text e = absurd (both_ways false refl e)
some_fit rules all (s ∷ ss) fits text e = elim (cases_Bool (fills_slot s text)) [
  | inl passes ↦
      let parts = cut_value s text passes in
      record {
        slot = s;
        value = parts.0;
        known = fits.0.0;
        is = parts.1;
        fits = sym (ap (fills_slot s) parts.1) ∙ passes;
        few = fits.0.1;
      }
  | inr other ↦ some_fit rules all ss fits.1 text (sym (ap (λ b. b || list_any (λ slot. fills_slot slot text) ss) other) ∙ e)
]

pub all_cut : (command : CommandWord) (all words : List Text) → ForEach (Fit (rules_at command) all) (slots_of_command command)
    → All (λ text. IsTrue (list_any (λ slot. fills_slot slot text) (slots_of_command command))) words → AllCut (rules_at command) all words
all_cut command all [] fits each = tt
all_cut command all (x ∷ xs) fits each =
    let P : Text → Type 0 = λ text. IsTrue (list_any (λ slot. fills_slot slot text) (slots_of_command command)) in
    (some_fit (rules_at command) all (slots_of_command command) fits x (All-head P x xs each), all_cut command all xs fits (All-tail P x xs each))

-- ---- what the rows of the words say of a slot

abbrev pub LookedUp : List Text → Slot → Option Text → Type 0
LookedUp words slot (Some v) = GivesSlot words slot v
LookedUp words slot None = (v : Text) → GivesSlot words slot v → ⊥

Contains-cases : (x : Text) (xs : List Text) (y : Text) → Contains (x ∷ xs) y → (x ≡ y) ⊎ Contains xs y
Contains-cases x xs y c = elim c.0 as (λ k. k < length (x ∷ xs) → get_or (x ∷ xs) k y ≡ y → (x ≡ y) ⊎ Contains xs y) [
  | zero ↦ λ _ e. inl e
  | suc k ↦ λ h e. inr (k, omega arith, e)
] c.1 c.2

pub slot_cases : (x : Slot) (xs : List Slot) (y : Slot) → Contains (x ∷ xs) y → (x ≡ y) ⊎ Contains xs y
slot_cases x xs y c = elim c.0 as (λ k. k < length (x ∷ xs) → get_or (x ∷ xs) k y ≡ y → (x ≡ y) ⊎ Contains xs y) [
  | zero ↦ λ _ e. inl e
  | suc k ↦ λ h e. inr (k, omega arith, e)
] c.1 c.2

pub lookup : (rules : List Rule) (all words : List Text) → AllCut rules all words → (slot : Slot) → Known rules slot
    → LookedUp words slot (first_of (id_of slot) (map row_for words))
lookup rules all [] cuts slot known = λ v g. let h : g.0.0 < 0 = g.0.1 in omega arith
lookup rules all (x ∷ xs) cuts slot known = elim (cases_Bool (bytes_eq (key x).0 (id_of slot))) [
  | inl same ↦
      let cut = cuts.0 in
      let own = own_slot rules all x cut slot same in
      let value : (key x).1 ≡ cut.value = ap (λ (k : Text × Text). k.1) (cut_key rules all x cut) in
      let P : Slot → Type 0 = λ s. (x ≡ prefix_of s ++ cut.value) × (fills_slot s (prefix_of s ++ cut.value) ≡ true) in
      let at : P slot = subst P own (cut.is, cut.fits) in
      let G : GivesSlot (x ∷ xs) slot cut.value = ((0, omega arith, at.0), at.1) in
      let found : first_of (id_of slot) (map row_for (x ∷ xs)) ≡ Some cut.value = rw same (ap Some value) in
      subst (LookedUp (x ∷ xs) slot) (sym found) G
  | inr other ↦
      let passed : first_of (id_of slot) (map row_for (x ∷ xs)) ≡ first_of (id_of slot) (map row_for xs) = rw other refl in
      let head : (v : Text) → x ≡ prefix_of slot ++ v → fills_slot slot (prefix_of slot ++ v) ≡ true → ⊥ = λ v e f.
      let k : ◌≡◌ {A = Text × Text} (key x) (id_of slot, v) = ap key e ∙ key_is rules slot v known f in
      both_ways _ other ((bytes_eq-Decides (key x).0 (id_of slot)).1 (ap (λ (k : Text × Text). k.0) k)) in
      subst (LookedUp (x ∷ xs) slot) (sym passed) (go head (first_of (id_of slot) (map row_for xs)) (lookup rules all xs cuts.1 slot known))
]
  where
    go : ((v : Text) → x ≡ prefix_of slot ++ v → fills_slot slot (prefix_of slot ++ v) ≡ true → ⊥) → (o : Option Text) → LookedUp xs slot o → LookedUp (x ∷ xs) slot o
    go head (Some v) g = ((suc g.0.0, omega (arith, g.0.1), g.0.2), g.1)
    go head None none = λ v g. elim (Contains-cases x xs (prefix_of slot ++ v) g.0) [
      | inl here ↦ head v here g.1
      | inr there ↦ none v (there, g.1)
    ]

-- a row of the words has a value
pub present : (id : Text) (words : List Text) → has_row id (map row_for words) ≡ is_some (first_of id (map row_for words))
present id [] = refl
present id (x ∷ xs) = go (bytes_eq (key x).0 id) (present id xs)
  where
    go : (b : Bool) → has_row id (map row_for xs) ≡ is_some (first_of id (map row_for xs))
        → (b || has_row id (map row_for xs))
        ≡ is_some (option_and_then (λ (r : Row). slice_get r.values 0) (cond b (Some (row_for x)) (find (λ (r : Row). bytes_eq r.id id) (map row_for xs))))
    go true e = refl
    go false e = e
