-- What the matches say of the command that was entered.
use Rattle.std.proofs.Common.{◌≡◌, false, true≢false, List, ◌∷◌, Option, Some, None, is_some, option_map, Contains, refl, sym, ap, ◌∙◌, subst}
use Rattle.std.specs.Prelude.{Box}
use Rattle.std.specs.Box.{box_value}
use Rattle.std.specs.declared.alloc.Global.{Global}
use Rattle.clap.specs.declared.parser.matches.SubCommand.{SubCommand}
use Rattle.clap.specs.Walk.{Row, Text, first_of, rows_of}
use Rattle.clap.specs.Simple.{subcommand_rows, subcommand_rows_of, subcommand_of}
use Rattle.clap.specs.Matches.{found_of, first_value, has_subcommand, subcommand_name_of}
use Rattle.clap.specs.declared.parser.matches.ArgMatches.{ArgMatches}
use Rattle.clap.specs.declared.parser.matches.ArgMatches.TheViews.{out-ArgMatches, out-SubCommand}
use Rattle.clap.proofs.WalkLemmas.{first_value-rows}
use Rattle.command_line.specs.declared.form.CommandWord.{CommandWord}
use Rattle.command_line.specs.declared.form.Slot.{Slot}
use Rattle.command_line.specs.Program.{HasText, id_of, program}
use Rattle.command_line.specs.Words.{command_text, slots_of_command, IsForm}
use Rattle.command_line.proofs.Matched.{are_taken}

none_is : {X : Type 0} (x : X) → None ≡ Some x → ⊥
none_is x e = cc

some_is : {X : Type 0} (x y : X) → Some x ≡ Some y → x ≡ y
some_is x y e = cc

same : (o : Option (Box SubCommand Global)) → is_some o ≡ is_some (subcommand_rows o)
same None = refl
same (Some b) = refl

name_of : (o : Option (Box SubCommand Global)) → option_map (λ b. (out-SubCommand (box_value b)).name.now) o ≡ option_map (λ (p : Text × List Row). p.0) (subcommand_rows o)
name_of None = refl
name_of (Some b) = refl

-- the matches of these words are of the command and its rows
module _ (words : List Text) (command : CommandWord) (others : List Text) (begins : words ≡ command_text command ∷ others) (form : IsForm command others)
    (m : ArgMatches) (is : subcommand_rows_of m ≡ subcommand_of program words) where
  rows_are : subcommand_rows_of m ≡ Some (command_text command, (are_taken command others form).rows)
  rows_are = is ∙ (ap (subcommand_of program) begins ∙ (are_taken command others form).entered)

  pub entered : has_subcommand m ≡ false → ⊥
  entered none =
      let there : has_subcommand m ≡ is_some (subcommand_rows_of m) = same (out-ArgMatches m).subcommand in
      true≢false (sym (there ∙ ap is_some rows_are) ∙ none)

  pub named : (name : Text) → Some name ≡ subcommand_name_of m → name ≡ command_text command
  named name e =
      let names : subcommand_name_of m ≡ option_map (λ (p : Text × List Row). p.0) (subcommand_rows_of m) = name_of (out-ArgMatches m).subcommand in
      some_is name (command_text command) (e ∙ (names ∙ ap (option_map (λ (p : Text × List Row). p.0)) rows_are))

  pub texts_are : (given : ArgMatches) → Some (rows_of (found_of given)) ≡ option_map (λ (p : Text × List Row). p.1) (subcommand_rows_of m)
      → (slot : Slot) → Contains (slots_of_command command) slot → HasText others slot (first_value (found_of given) (id_of slot))
  texts_are given e slot there =
      let rows : rows_of (found_of given) ≡ (are_taken command others form).rows =
      some_is _ _ (e ∙ ap (option_map (λ (p : Text × List Row). p.1)) rows_are) in
      let text : first_value (found_of given) (id_of slot) ≡ first_of (id_of slot) (are_taken command others form).rows =
      first_value-rows (found_of given) (id_of slot) ∙ ap (first_of (id_of slot)) rows in
      subst (HasText others slot) (sym text) ((are_taken command others form).stands slot there)
