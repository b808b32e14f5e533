-- The parser as it is put together.
use Rattle.std.proofs.Common.{◌≡◌, ◌∙◌, ◌+◌, ◌<◌, ◌||◌, ℕ, false, List, [], ◌∷◌, map, length, take, get_or, zero, suc, refl, sym, ap, ap₂, arith}
use Rattle.std.proofs.lemmas.List.{map_more}
use Rattle.clap.specs.Built.{AddsArg}
use Rattle.clap.specs.Simple.{App, app_of, new_shape, with_rule}
use Rattle.clap.specs.Walk.{Rule, rule_of}
use Rattle.clap.specs.declared.builder.arg.Arg.{Arg}
use Rattle.clap.specs.declared.builder.command.Command.{Command}
use Rattle.clap.specs.declared.builder.command.Command.TheViews.{out-Command}
use Rattle.command_line.specs.declared.form.CommandWord.{CommandWord}
use Rattle.command_line.specs.declared.form.Slot.{Slot}
use Rattle.command_line.specs.Words.{command_text}
use Rattle.command_line.specs.Program.{slot_rule}

abbrev pub rules_app : CommandWord → List Rule → App
rules_app command rules = record { top = record (new_shape (command_text command)) { rules = rules }; subs = [] }

abbrev pub slots_app : CommandWord → List Slot → App
slots_app command slots = rules_app command (map slot_rule slots)

-- one more slot's argument
pub more_slots : (command : CommandWord) (slots : List Slot) (i : ℕ) (slot : Slot) (old new : Command) (arg : Arg)
    → i < length slots → slot ≡ get_or slots i slot → app_of old ≡ slots_app command (take i slots)
    → arg.global ≡ false → rule_of arg ≡ slot_rule slot → AddsArg old arg new → app_of new ≡ slots_app command (take (i + 1) slots)
more_slots command slots i slot old new arg h at is local rule adds =
    adds.shape local ∙ (ap₂ with_rule is (rule ∙ ap slot_rule at) ∙ ap (rules_app command) (sym (map_more slot_rule slots i slot h)))

pub get_or-same : {X : Type 0} (xs : List X) (i : ℕ) (d e : X) → i < length xs → get_or xs i d ≡ get_or xs i e
get_or-same [] i d e h = absurd (omega arith)
get_or-same (x ∷ xs) zero d e h = refl
get_or-same (x ∷ xs) (suc i) d e h = get_or-same xs i d e (omega arith)

-- the slot at a place
pub slot_at : (slots : List Slot) (i : ℕ) (d : Slot) → i < length slots → get_or slots i d ≡ get_or slots i (get_or slots i d)
slot_at slots i d h = get_or-same slots i d (get_or slots i d) h

-- an argument of its own command alone leaves none for other commands
pub still_local : (old new : Command) (arg : Arg) → (out-Command old).has_globals ≡ false → arg.global ≡ false → AddsArg old arg new
    → (out-Command new).has_globals ≡ false
still_local old new arg none local adds = adds.globals ∙ ap₂ (λ a b. a || b) none local
