use Rattle.std.proofs.Common.{◌≡◌, ◌+◌, ℕ, Bool, Some, nat_le, length, sym, ap, ◌∙◌, arith}
use Rattle.std.specs.Option.{option_map}
use Rattle.lin_tidy_rules.specs.Turning.{Turn, label_here, turn_for, exit_head}
use Rattle.lin_tidy.specs.Loops.{head_view}
use Rattle.lin_tidy.proofs.Loops.{after_room, keeps_by_place}
use Rattle.lin_tidy.proofs.turning.line_turn.Goals as goal

pub label_here-here-requires : goal.label_here-here-requires
label_here-here-requires c =
    let room = after_room c.args.lin.now.code c.args.free c.args.place c.lines_after.result c.requires.place c.requires.room c.lines_after.ensures in
    omega (arith, room)

pub returns-in-Some : goal.returns-in-Some
returns-in-Some c = λ i next e.
    let m = c.args.lin.now in
    let head = head_view c.in-Some.head in
    let turn : ℕ → Bool → Turn = λ here keeps. record { here = here; head = head; keeps = keeps } in
    let told : Some head ≡ exit_head m c.args.free i.op i.args i.results next =
    sym (ap (option_map head_view) c.in-Some.is) ∙ c.in_ok-exit_head.ensures i next e in
    ap (λ here. Some (turn here (nat_le c.place_of.result (c.args.place + 1))))
    (c.label_here-here.ensures ∙ ap (label_here c.args.free) (c.lines_after.ensures i next e))
    ∙ ap (λ keeps. Some (turn (label_here c.args.free (length next)) keeps))
    (keeps_by_place m c.args.labels.now head.to c.place_of.result c.args.place i next c.requires.labels c.place_of.ensures e)
    ∙ ap (turn_for m c.args.free next) told
