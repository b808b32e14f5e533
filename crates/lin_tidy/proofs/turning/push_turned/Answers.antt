use Rattle.std.proofs.Common.{◌≡◌, ◌++◌, ℕ, Option, Some, sym, ap, ◌∙◌}
use Rattle.std.specs.Option.{option_map}
use Rattle.lin_ir.specs.declared.lin.Line.{Line}
use Rattle.lin_tidy_rules.specs.Turning.{turned_line}
use Rattle.lin_tidy.specs.Loops.{turn_view}
use Rattle.lin_tidy.proofs.Loops.{if_ok}
use Rattle.lin_tidy.proofs.turning.push_turned.Goals as goal

pub returns-in-Some : goal.returns-in-Some
returns-in-Some c =
    if_ok (λ _. (label : Option ℕ) (line : Line) →
    c.push_turn.new.code.items ≡ c.args.code.now.items ++ turned_line (Some (turn_view c.in-Some.turn)) label line)
    (λ _. c.push_turn.new.code.items ≡ c.args.code.now.items ++ turned_line (option_map turn_view c.args.turn) c.args.label c.args.line)
    c.push_turn.result
    (λ _ h.
    h c.args.label c.args.line
    ∙ ap (λ t. c.args.code.now.items ++ turned_line (option_map turn_view t) c.args.label c.args.line) (sym c.in-Some.is))
    c.push_turn.ensures
