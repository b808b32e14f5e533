-- What words of the form are taken as: defaults stand where no word gives a value, and the command is entered.
use Rattle.std.proofs.Common.{lit<, option_and_then, slice_get, Contains, count_by, ◌≡◌, ◌∙◌, ◌<◌, ◌≤◌, ◌+◌, ◌&&◌, ◌||◌, Bool, true, false, cond, refl, sym, ap, ap₂, subst, arith, List, [], ◌∷◌, ◌++◌, map, fold, Option, Some, None, is_some, bytes_eq, ◌⊎◌, inl, inr}
use Rattle.std.specs.List.{find, list_all}
use Rattle.std.proofs.lemmas.Bool.{both_ways, cases_Bool}
use Rattle.std.proofs.lemmas.Slice.Eq.{bytes_eq-Decides}
use Rattle.clap.specs.Walk.{Row, Rule, Text, Walk, walk_from, nothing_held, has_row, more_values, with_default, default_rows, reading_by, finished, rows_after, first_of}
use Rattle.clap.specs.Simple.{entered}
use Rattle.clap.specs.Takes.{settle_passes, level_passes, default_passes, is_valid}
use Rattle.clap.specs.declared.builder.value_parser.Reading.{Reading}
use Rattle.clap.specs.declared.parser.matches.ValueSource.TheVariants.{DefaultValue}
use Rattle.command_line.specs.declared.form.CommandWord.{CommandWord}
use Rattle.command_line.specs.declared.form.CommandWord.TheVariants as word
use Rattle.command_line.specs.declared.form.Slot.{Slot}
use Rattle.command_line.specs.declared.form.Slot.TheVariants.{Plain, Args, Answers, Steps, Stack, Heap, Moves, Fuel, Jobs, Alloc, Schedule, Seed, Functions}
use Rattle.command_line.specs.Words.{command_text, slots_of_command, fills_slot, IsForm}
use Rattle.command_line.proofs.Gives.{wanted_given}
use Rattle.command_line.specs.Program.{id_of, default_texts, word_gives, word_lacks, HasText, AreTaken}
use Rattle.command_line.proofs.Walked.{at_row_fresh, has_row-append, slot_cases, slot-unique, known_each, fit_each, all_cut, fresh_words, goes, lookup, present, cut_value, is_taken, subcommand_is, built_rule, rules_at, level_shape, ForEach, row_for, LookedUp, Known, At}

-- ---- defaults

first_of-append : (id : Text) (rows more : List Row) → has_row id rows ≡ true → first_of id (rows ++ more) ≡ first_of id rows
first_of-append id [] more e = absurd (both_ways false refl e)
first_of-append id (r ∷ rs) more e = go (bytes_eq r.id id) e (first_of-append id rs more)
  where
    go : (b : Bool) → (b || has_row id rs) ≡ true → (has_row id rs ≡ true → first_of id (rs ++ more) ≡ first_of id rs)
        → option_and_then (λ (x : Row). slice_get x.values 0) (cond b (Some r) (find (λ (x : Row). bytes_eq x.id id) (rs ++ more)))
        ≡ option_and_then (λ (x : Row). slice_get x.values 0) (cond b (Some r) (find (λ (x : Row). bytes_eq x.id id) rs))
    go true f rest = refl
    go false f rest = rest f

first_of-last : (id : Text) (r : Row) (rows : List Row) → has_row id rows ≡ false → bytes_eq r.id id ≡ true → first_of id (rows ++ r ∷ []) ≡ slice_get r.values 0
first_of-last id r [] none same = rw same refl
first_of-last id r (x ∷ xs) none same = go (bytes_eq x.id id) none (λ f. first_of-last id r xs f same)
  where
    go : (b : Bool) → (b || has_row id xs) ≡ false → (has_row id xs ≡ false → first_of id (xs ++ r ∷ []) ≡ slice_get r.values 0)
        → option_and_then (λ (y : Row). slice_get y.values 0) (cond b (Some x) (find (λ (y : Row). bytes_eq y.id id) (xs ++ r ∷ []))) ≡ slice_get r.values 0
    go true f rest = absurd (both_ways true f refl)
    go false f rest = rest f

abbrev default_row : Text → Reading → Text → List Text → Row
default_row id how v vs = record { id = id; values = v ∷ vs; count = None; source = Some DefaultValue; reading = how }

-- where a rule's argument has no row, its default is the last row
defaulted : (a : Rule) (rows : List Row) (v : Text) (vs : List Text) → has_row a.id rows ≡ false → a.defaults ≡ v ∷ vs
    → with_default rows a ≡ rows ++ default_row a.id (reading_by a) v vs ∷ []
defaulted a rows v vs none is =
    ap₂ (λ b ds. cond b rows (default_rows a.id (reading_by a) ds rows)) none is
    ∙ at_row_fresh a.id (more_values DefaultValue (v ∷ vs)) (default_row a.id (reading_by a) v vs ∷ []) rows none

undefaulted : (a : Rule) (rows : List Row) → a.defaults ≡ [] → with_default rows a ≡ rows
undefaulted a rows is = ap (λ ds. cond (has_row a.id rows) rows (default_rows a.id (reading_by a) ds rows)) is ∙ same (has_row a.id rows)
  where
    same : (b : Bool) → cond b rows rows ≡ rows
    same true = refl
    same false = refl

list_cases : (xs : List Text) → (xs ≡ []) ⊎ ((v : Text) × (vs : List Text) × (xs ≡ v ∷ vs))
list_cases [] = inl refl
list_cases (v ∷ vs) = inr (v, vs, refl)

-- a row that is there stays the first of its id
keeps_row : (id : Text) (a : Rule) (rows : List Row) → has_row id rows ≡ true
    → (has_row id (with_default rows a) ≡ true) × (first_of id (with_default rows a) ≡ first_of id rows)
keeps_row id a rows there = elim (cases_Bool (has_row a.id rows)) [
  | inl old ↦
      let same : with_default rows a ≡ rows = rw old refl in
      (ap (has_row id) same ∙ there, ap (first_of id) same)
  | inr new ↦ elim (list_cases a.defaults) [
    | inl none ↦ let same = undefaulted a rows none in (ap (has_row id) same ∙ there, ap (first_of id) same)
    | inr some ↦
        let r = default_row a.id (reading_by a) some.0 some.1 in
        let is = defaulted a rows some.0 some.1 new some.2 in (
          ap (has_row id) is ∙ (has_row-append id r rows ∙ ap (λ b. b || bytes_eq r.id id) there),
          ap (first_of id) is ∙ first_of-append id rows (r ∷ []) there,
        )
  ]
]

keeps_all : (id : Text) (rules : List Rule) (rows : List Row) → has_row id rows ≡ true → first_of id (fold with_default rows rules) ≡ first_of id rows
keeps_all id [] rows there = refl
keeps_all id (a ∷ rules) rows there =
    let kept = keeps_row id a rows there in keeps_all id rules (with_default rows a) kept.0 ∙ kept.1

-- a default of another argument is no row of this one
lacks_row : (id : Text) (a : Rule) (rows : List Row) → has_row id rows ≡ false → bytes_eq a.id id ≡ false → has_row id (with_default rows a) ≡ false
lacks_row id a rows none other = elim (cases_Bool (has_row a.id rows)) [
  | inl old ↦ let same : with_default rows a ≡ rows = rw old refl in ap (has_row id) same ∙ none
  | inr new ↦ elim (list_cases a.defaults) [
    | inl empty ↦ ap (has_row id) (undefaulted a rows empty) ∙ none
    | inr some ↦
        let r = default_row a.id (reading_by a) some.0 some.1 in
        ap (has_row id) (defaulted a rows some.0 some.1 new some.2) ∙ (has_row-append id r rows ∙ ap₂ (λ b c. b || c) none other)
  ]
]

rule_is : (slot : Slot) → ((built_rule slot).id ≡ id_of slot) × ((built_rule slot).defaults ≡ default_texts slot)
rule_is Plain = (refl, refl)
rule_is Args = (refl, refl)
rule_is Answers = (refl, refl)
rule_is Steps = (refl, refl)
rule_is Stack = (refl, refl)
rule_is Heap = (refl, refl)
rule_is Moves = (refl, refl)
rule_is Fuel = (refl, refl)
rule_is Jobs = (refl, refl)
rule_is Alloc = (refl, refl)
rule_is Schedule = (refl, refl)
rule_is Seed = (refl, refl)
rule_is Functions = (refl, refl)

other_rule : (slot s : Slot) → bytes_eq (id_of s) (id_of slot) ≡ false → bytes_eq (built_rule s).id (id_of slot) ≡ false
other_rule slot s e = ap (λ t. bytes_eq t (id_of slot)) (rule_is s).0 ∙ e

same_slot : (slot s : Slot) → bytes_eq (id_of s) (id_of slot) ≡ true → s ≡ slot
same_slot slot s e = slot-unique s slot ((bytes_eq-Decides (id_of s) (id_of slot)).0 e)

some_default : (slot : Slot) (text : Text) → default_texts slot ≡ text ∷ [] → (slots : List Slot) → Contains slots slot → (rows : List Row)
    → has_row (id_of slot) rows ≡ false → first_of (id_of slot) (fold with_default rows (map built_rule slots)) ≡ Some text
some_default slot text is [] there rows none = let h : there.0 < 0 = there.1 in absurd (omega arith)
some_default slot text is (s ∷ ss) there rows none = elim (cases_Bool (bytes_eq (id_of s) (id_of slot))) [
  | inl same ↦
      let id : (built_rule s).id ≡ id_of slot = (rule_is s).0 ∙ (bytes_eq-Decides (id_of s) (id_of slot)).0 same in
      let defaults : (built_rule s).defaults ≡ text ∷ [] = (rule_is s).1 ∙ (ap default_texts (same_slot slot s same) ∙ is) in
      let r = default_row (built_rule s).id (reading_by (built_rule s)) text [] in
      let added = defaulted (built_rule s) rows text [] (ap (λ t. has_row t rows) id ∙ none) defaults in
      let own : bytes_eq r.id (id_of slot) ≡ true = (bytes_eq-Decides (built_rule s).id (id_of slot)).1 id in
      let now : has_row (id_of slot) (with_default rows (built_rule s)) ≡ true =
      ap (has_row (id_of slot)) added ∙ (has_row-append (id_of slot) r rows ∙ ap₂ (λ b c. b || c) none own) in
      keeps_all (id_of slot) (map built_rule ss) (with_default rows (built_rule s)) now
      ∙ (ap (first_of (id_of slot)) added ∙ first_of-last (id_of slot) r rows none own)
  | inr other ↦
      let left : Contains ss slot = elim (slot_cases s ss slot there) [
        | inl here ↦ absurd (both_ways _ other ((bytes_eq-Decides (id_of s) (id_of slot)).1 (ap id_of here)))
        | inr later ↦ later
      ] in
      some_default slot text is ss left (with_default rows (built_rule s)) (lacks_row (id_of slot) (built_rule s) rows none (other_rule slot s other))
]

default_form : (slot : Slot) → (default_texts slot ≡ []) ⊎ ((text : Text) × (default_texts slot ≡ text ∷ []))
default_form Plain = inl refl
default_form Args = inr (_, refl)
default_form Answers = inr (_, refl)
default_form Steps = inr (_, refl)
default_form Stack = inr (_, refl)
default_form Heap = inr (_, refl)
default_form Moves = inr (_, refl)
default_form Fuel = inr (_, refl)
default_form Jobs = inr (_, refl)
default_form Alloc = inr (_, refl)
default_form Schedule = inr (_, refl)
default_form Seed = inl refl
default_form Functions = inl refl

-- ---- the whole

defaults_pass : (command : CommandWord) → list_all default_passes (rules_at command) ≡ true
defaults_pass word.Compile = refl
defaults_pass word.Run = refl
defaults_pass word.Check = refl
defaults_pass word.List = refl
defaults_pass word.Soak = refl

valid_at : (command : CommandWord) (rows : List Row) → is_valid (level_shape (command_text command) (rules_at command)) rows false ≡ true
valid_at word.Compile rows = refl
valid_at word.Run rows = refl
valid_at word.Check rows = refl
valid_at word.List rows = refl
valid_at word.Soak rows = refl

each_at : (P : Slot → Type 0) (slots : List Slot) → ForEach P slots → (slot : Slot) → Contains slots slot → P slot
each_at P [] each slot there = let h : there.0 < 0 = there.1 in absurd (omega arith)
each_at P (s ∷ ss) each slot there = elim (slot_cases s ss slot there) [
  | inl here ↦ subst P here each.0
  | inr later ↦ each_at P ss each.1 slot later
]

-- a slot that has no default has to be there
abbrev Wanted : List Text → Slot → Type 0
Wanted others slot = default_texts slot ≡ [] → 1 ≤ count_by (fills_slot slot) others

full : (x : Text) (xs : List Text) → x ∷ xs ≡ [] → ⊥
full x xs e = cc

wanted_each : (command : CommandWord) (others : List Text) → IsForm command others → ForEach (Wanted others) (slots_of_command command)
wanted_each word.Compile others form = (λ e. absurd (full _ [] e), (λ e. absurd (full _ [] e), (λ e. absurd (full _ [] e), tt)))
wanted_each word.Run others form = (
  λ _. form.there 0 Plain (lit< tt),
  (
    λ e. absurd (full _ [] e),
    (
      λ e. absurd (full _ [] e),
      (
        λ e. absurd (full _ [] e),
        (λ e. absurd (full _ [] e), (λ e. absurd (full _ [] e), (λ e. absurd (full _ [] e), tt))),
      ),
    ),
  ),
)
wanted_each word.Check others form = (
  λ _. form.there 0 Plain (lit< tt),
  (
    λ e. absurd (full _ [] e),
    (λ e. absurd (full _ [] e), (λ e. absurd (full _ [] e), (λ e. absurd (full _ [] e), (λ e. absurd (full _ [] e), tt)))),
  ),
)
wanted_each word.List others form = (λ _. form.there 0 Plain (lit< tt), (λ e. absurd (full _ [] e), (λ e. absurd (full _ [] e), tt)))
wanted_each word.Soak others form = (λ _. form.there 0 Seed (lit< tt), (λ _. form.there 1 Functions (lit< tt), tt))

stands_by : (command : CommandWord) (others : List Text) (slot : Slot) → Contains (slots_of_command command) slot → Wanted others slot → (o : Option Text)
    → first_of (id_of slot) (map row_for others) ≡ o → LookedUp others slot o
    → HasText others slot (first_of (id_of slot) (fold with_default (map row_for others) (rules_at command)))
stands_by command others slot there wanted (Some v) e g =
    let row : has_row (id_of slot) (map row_for others) ≡ true = present (id_of slot) others ∙ ap is_some e in
    (v, keeps_all (id_of slot) (rules_at command) (map row_for others) row ∙ e, word_gives g)
stands_by command others slot there wanted None e none =
    let row : has_row (id_of slot) (map row_for others) ≡ false = present (id_of slot) others ∙ ap is_some e in
    elim (default_form slot) [
      | inl empty ↦ absurd (wanted_given slot others (wanted empty) (cut_value slot) none)
      | inr some ↦
          (some.0, some_default slot some.0 some.1 (slots_of_command command) there (map row_for others) row, word_lacks none some.1)
    ]

pub are_taken : (command : CommandWord) (others : List Text) → IsForm command others → AreTaken command others
are_taken command others form =
    let rules = rules_at command in
    let known = known_each command in
    let fits = fit_each rules others (slots_of_command command) known form.once in
    let cuts = all_cut command others others fits form.each in
    let fresh = fresh_words rules others others [] refl tt cuts in
    let begin : At rules (walk_from nothing_held) (map row_for []) =
    record { kept = []; pending = None; position = 1; is = refl; rows_are = refl; passes = refl; first = λ _. refl } in
    let gone = goes rules (command_text command) others others [] (walk_from nothing_held) begin cuts fresh in
    let at = gone.0 in
    let rows_are : rows_after rules [] others ≡ fold with_default (map row_for others) rules =
    ap (λ (w : Walk). finished rules w.held) at.is ∙ ap (λ rows. fold with_default rows rules) at.rows_are in
    let passes : level_passes (level_shape (command_text command) rules) [] nothing_held others false ≡ true =
    ap₂ (λ a b. a && b) gone.1 (ap₂ (λ a b. a && b) (ap (λ (w : Walk). settle_passes rules false w.held) at.is ∙ at.passes)
    (ap₂ (λ a b. a && b) (defaults_pass command) (valid_at command (rows_after rules [] others)))) in
    record {
      taken = is_taken command others passes;
      rows = rows_after rules [] others;
      entered = subcommand_is command others;
      stands = λ slot there.
          subst (λ rows. HasText others slot (first_of (id_of slot) rows)) (sym rows_are)
          (stands_by command others slot there (each_at (Wanted others) (slots_of_command command) (wanted_each command others form) slot there) (first_of (id_of slot) (map row_for others)) refl
          (lookup rules others others cuts slot (each_at (Known rules) (slots_of_command command) known slot there)));
    }
