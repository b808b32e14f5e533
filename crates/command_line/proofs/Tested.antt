-- The form of a command line, from the tests of the code.
use Rattle.std.proofs.Common.{◌≡◌, ◌≤◌, Bool, true, false, ◌&&◌, ◌↔◌, IsTrue, List, [], ◌∷◌, map, All, count_by, nat_le, string_bytes, refl, sym, ap, ◌∙◌, subst}
use Rattle.std.specs.Bool.{Decides}
use Rattle.std.specs.List.{list_any, list_all}
use Rattle.std.specs.declared.string.String.{String}
use Rattle.std.specs.declared.alloc.Global.{Global}
use Rattle.std.proofs.lemmas.Bool.{leb-true, le-leb, both_ways}
use Rattle.std.proofs.lemmas.Bool.Decides.{Decides-by_and}
use Rattle.command_line.specs.declared.form.CommandWord.{CommandWord}
use Rattle.command_line.specs.declared.form.Slot.{Slot}
use Rattle.command_line.specs.View.{texts}
use Rattle.command_line.specs.Words.{slots_of_command, wanted_of, fills_slot, IsForm}

list_all-map : {X Y : Type 0} (f : X → Y) (p : Y → Bool) → (xs : List X) → list_all (λ x. p (f x)) xs ≡ list_all p (map f xs)
list_all-map f p [] = refl
list_all-map f p (x ∷ xs) = ap (λ b. p (f x) && b) (list_all-map f p xs)

-- a test of each item decides that each passes
each-Decides : {X : Type 0} (p : X → Bool) (P : X → Type 0) → ((x : X) → Decides (p x) (P x)) → (xs : List X) → Decides (list_all p xs) (All P xs)
each-Decides p P each xs = Decides-by_and p P (list_all p) each refl (λ _ _. refl) xs

-- the code's three tests
abbrev pub each_test : CommandWord → List (String Global) → Bool
each_test command words = list_all (λ word. list_any (λ slot. fills_slot slot (string_bytes word)) (slots_of_command command)) words

abbrev pub once_test : CommandWord → List (String Global) → Bool
once_test command words = list_all (λ slot. nat_le (count_by (fills_slot slot) (texts words)) 1) (slots_of_command command)

abbrev pub there_test : CommandWord → List (String Global) → Bool
there_test command words = list_all (λ slot. nat_le 1 (count_by (fills_slot slot) (texts words))) (wanted_of command)

each_test-Decides : (command : CommandWord) (words : List (String Global))
    → Decides (each_test command words) (All (λ text. IsTrue (list_any (λ slot. fills_slot slot text) (slots_of_command command))) (texts words))
each_test-Decides command words =
    let P : Bool → Type 0 = λ b. Decides b (All (λ text. IsTrue (list_any (λ slot. fills_slot slot text) (slots_of_command command))) (texts words)) in
    subst P (sym (list_all-map (λ (w : String Global). string_bytes w) (λ text. list_any (λ slot. fills_slot slot text) (slots_of_command command)) words))
    (each-Decides (λ text. list_any (λ slot. fills_slot slot text) (slots_of_command command)) (λ text. IsTrue (list_any (λ slot. fills_slot slot text) (slots_of_command command)))
    (λ _. ((λ e. e), (λ e. e))) (texts words))

once_test-Decides : (command : CommandWord) (words : List (String Global))
    → Decides (once_test command words) (All (λ slot. count_by (fills_slot slot) (texts words) ≤ 1) (slots_of_command command))
once_test-Decides command words =
    each-Decides (λ slot. nat_le (count_by (fills_slot slot) (texts words)) 1) (λ slot. count_by (fills_slot slot) (texts words) ≤ 1)
    (λ slot. (leb-true _ _, le-leb _ _)) (slots_of_command command)

there_test-Decides : (command : CommandWord) (words : List (String Global))
    → Decides (there_test command words) (All (λ slot. 1 ≤ count_by (fills_slot slot) (texts words)) (wanted_of command))
there_test-Decides command words =
    each-Decides (λ slot. nat_le 1 (count_by (fills_slot slot) (texts words))) (λ slot. 1 ≤ count_by (fills_slot slot) (texts words))
    (λ slot. (leb-true _ _, le-leb _ _)) (wanted_of command)

-- the test of the slots that a call answered
at_slots : (command : CommandWord) (words : List (String Global)) (slots : List Slot) (each : Bool) → slots ≡ slots_of_command command
    → each ≡ list_all (λ word. list_any (λ slot. fills_slot slot (string_bytes word)) slots) words → each ≡ each_test command words
at_slots command words slots each s e =
    let P : List Slot → Type 0 = λ xs. each ≡ list_all (λ word. list_any (λ slot. fills_slot slot (string_bytes word)) xs) words in
    subst P s e

once_at_slots : (command : CommandWord) (words : List (String Global)) (slots : List Slot) (once : Bool) → slots ≡ slots_of_command command
    → once ≡ list_all (λ slot. nat_le (count_by (fills_slot slot) (texts words)) 1) slots → once ≡ once_test command words
once_at_slots command words slots once s e =
    let P : List Slot → Type 0 = λ xs. once ≡ list_all (λ slot. nat_le (count_by (fills_slot slot) (texts words)) 1) xs in
    subst P s e

there_at_slots : (command : CommandWord) (words : List (String Global)) (slots : List Slot) (there : Bool) → slots ≡ wanted_of command
    → there ≡ list_all (λ slot. nat_le 1 (count_by (fills_slot slot) (texts words))) slots → there ≡ there_test command words
there_at_slots command words slots there s e =
    let P : List Slot → Type 0 = λ xs. there ≡ list_all (λ slot. nat_le 1 (count_by (fills_slot slot) (texts words))) xs in
    subst P s e

-- the last test decides, where the others pass
pub form_then : (command : CommandWord) (words : List (String Global)) (slots slots' wanted : List Slot) (each once there : Bool)
    → slots ≡ slots_of_command command → slots' ≡ slots_of_command command → wanted ≡ wanted_of command
    → each ≡ list_all (λ word. list_any (λ slot. fills_slot slot (string_bytes word)) slots) words
    → once ≡ list_all (λ slot. nat_le (count_by (fills_slot slot) (texts words)) 1) slots'
    → there ≡ list_all (λ slot. nat_le 1 (count_by (fills_slot slot) (texts words))) wanted
    → each ≡ true → once ≡ true → IsTrue there ↔ IsForm command (texts words)
form_then command words slots slots' wanted each once there s s' w e o t each_passes once_passes =
    let t = there_at_slots command words wanted there w t in (
      (λ passes. record {
        each = (each_test-Decides command words).0 (sym (at_slots command words slots each s e) ∙ each_passes);
        once = (once_test-Decides command words).0 (sym (once_at_slots command words slots' once s' o) ∙ once_passes);
        there = (there_test-Decides command words).0 (sym t ∙ passes);
      }),
      (λ form. t ∙ (there_test-Decides command words).1 form.there),
    )

-- words of the form pass the first tests
pub form_each : (command : CommandWord) (words : List (String Global)) (slots : List Slot) (each : Bool)
    → slots ≡ slots_of_command command
    → each ≡ list_all (λ word. list_any (λ slot. fills_slot slot (string_bytes word)) slots) words
    → each ≡ false → IsForm command (texts words) → ⊥
form_each command words slots each s e fails form =
    both_ways each fails (at_slots command words slots each s e ∙ (each_test-Decides command words).1 form.each)

pub form_once : (command : CommandWord) (words : List (String Global)) (slots : List Slot) (once : Bool)
    → slots ≡ slots_of_command command
    → once ≡ list_all (λ slot. nat_le (count_by (fills_slot slot) (texts words)) 1) slots
    → once ≡ false → IsForm command (texts words) → ⊥
form_once command words slots once s o fails form =
    both_ways once fails (once_at_slots command words slots once s o ∙ (once_test-Decides command words).1 form.once)
