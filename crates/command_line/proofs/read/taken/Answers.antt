use Rattle.std.proofs.Common.{◌≡◌, ◌∷◌, sym, ap, ◌∙◌, refl}
use Rattle.clap.specs.Matches.{found_of, first_value}
use Rattle.command_line.specs.declared.form.CommandWord.{CommandWord}
use Rattle.command_line.specs.declared.form.Slot.{Slot}
use Rattle.command_line.specs.Program.{HasText, id_of}
use Rattle.command_line.specs.View.{texts}
use Rattle.command_line.specs.Words.{command_text}
use Rattle.command_line.proofs.Entered.{entered, named, texts_are}
use Rattle.command_line.proofs.Unique.{word-unique, form_at, stands_at, command_of, no_command}
use Rattle.command_line.proofs.read.taken.Goals as goal

pub unreachable-requires : goal.unreachable-requires
unreachable-requires c =
    let form = c.requires.form in
    entered (texts c.args.words.now) form.0 (texts c.args.others.now) form.1 form.2 c.args.matches.now c.requires.matches (sym c.in_default.ensures.variant)

pub unreachable-requires-in_default-named : goal.unreachable-requires-in_default-named
unreachable-requires-in_default-named c =
    let form = c.requires.form in
    c.in_default-named.ensures form.0
    (c.as_bytes.ensures.value
    ∙ named (texts c.args.words.now) form.0 (texts c.args.others.now) form.1 form.2 c.args.matches.now c.requires.matches c.in-Some.name.now c.in-Some.ensures.name)

pub meant-requires : goal.meant-requires
meant-requires c =
    let form = c.requires.form in
    let command = c.in-Some-named.command in
    let others = texts c.args.others.now in
    let H : Slot → Type 0 = λ slot. HasText others slot (first_value (found_of c.in-Some.given.now) (id_of slot)) in
    let same : form.0 ≡ command =
    word-unique form.0 command
    (sym (c.as_bytes.ensures.value
    ∙ named (texts c.args.words.now) form.0 others form.1 form.2 c.args.matches.now c.requires.matches c.in-Some.name.now c.in-Some.ensures.name)
    ∙ c.in-Some-named.ensures) in
    record {
      form = form_at others form.0 command same form.2;
      stands = stands_at H form.0 command same
          (texts_are (texts c.args.words.now) form.0 others form.1 form.2 c.args.matches.now c.requires.matches c.in-Some.given.now c.in-Some.ensures.rows);
    }

pub returns-clause-command : goal.returns-clause-command
returns-clause-command c =
    let form = c.requires.form in
    let command = c.in-Some-named.command in
    let others = texts c.args.others.now in
    let same : form.0 ≡ command =
    word-unique form.0 command
    (sym (c.as_bytes.ensures.value
    ∙ named (texts c.args.words.now) form.0 others form.1 form.2 c.args.matches.now c.requires.matches c.in-Some.name.now c.in-Some.ensures.name)
    ∙ c.in-Some-named.ensures) in
    command_of command (texts c.args.words.now) (command_text command) others c.meant.result (form.1 ∙ ap (λ (w : CommandWord). command_text w ∷ others) same) refl
    (form_at others form.0 command same form.2) c.meant.ensures.value

pub returns-clause-bad : goal.returns-clause-bad
returns-clause-bad c = λ e.
    let form = c.requires.form in
    let command = c.in-Some-named.command in
    let others = texts c.args.others.now in
    let same : form.0 ≡ command =
    word-unique form.0 command
    (sym (c.as_bytes.ensures.value
    ∙ named (texts c.args.words.now) form.0 others form.1 form.2 c.args.matches.now c.requires.matches c.in-Some.name.now c.in-Some.ensures.name)
    ∙ c.in-Some-named.ensures) in
    no_command command (texts c.args.words.now) (command_text command) others (form.1 ∙ ap (λ (w : CommandWord). command_text w ∷ others) same) refl (c.meant.ensures.bad e)

pub returns-clause-memory : goal.returns-clause-memory
returns-clause-memory c = λ e.
    let form = c.requires.form in
    let command = c.in-Some-named.command in
    let others = texts c.args.others.now in
    let same : form.0 ≡ command =
    word-unique form.0 command
    (sym (c.as_bytes.ensures.value
    ∙ named (texts c.args.words.now) form.0 others form.1 form.2 c.args.matches.now c.requires.matches c.in-Some.name.now c.in-Some.ensures.name)
    ∙ c.in-Some-named.ensures) in
    (command, form.1 ∙ ap (λ (w : CommandWord). command_text w ∷ others) same, c.meant.ensures.memory e)
