use Rattle.std.proofs.Common.{◌≡◌, length, vec_len, sym, ap, ◌∙◌, arith}
use Rattle.lin_tidy_rules.specs.Turning.{label_on}
use Rattle.lin_tidy.specs.Loops.{turns_in}
use Rattle.lin_tidy.proofs.Loops.{count_turns, label_some, label_none}
use Rattle.lin_tidy.proofs.turning.Changes.label_put.Goals as goal

pub label_on-label-requires : goal.label_on-label-requires
label_on-label-requires c =
    let self = c.args.self.now in
    let stored : vec_len self.turns ≡ length self.turns.items = omega (arith, self.turns.ok.0) in
    let same : c.len.result ≡ length (turns_in self) = c.len.ensures ∙ stored ∙ count_turns self in
    omega (arith, same, c.requires)

pub returns-then-is_opened : goal.returns-then-is_opened
returns-then-is_opened c =
    let self = c.args.self.now in
    let stored : vec_len self.turns ≡ length self.turns.items = omega (arith, self.turns.ok.0) in
    label_some self c.args.free c.label_on-label.result
    (c.label_on-label.ensures ∙ ap (label_on c.args.free) (c.len.ensures ∙ stored ∙ count_turns self))
    (sym c.is_opened.ensures ∙ c.if-is_opened.true)

pub returns-else-is_opened : goal.returns-else-is_opened
returns-else-is_opened c =
    let self = c.args.self.now in
    let stored : vec_len self.turns ≡ length self.turns.items = omega (arith, self.turns.ok.0) in
    label_none self c.args.free c.label_on-label.result
    (c.label_on-label.ensures ∙ ap (label_on c.args.free) (c.len.ensures ∙ stored ∙ count_turns self))
    (sym c.is_opened.ensures ∙ c.if-is_opened.false)
