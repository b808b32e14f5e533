use Rattle.std.proofs.Common.{rules, ◌≡◌, ◌∷◌, ◌++◌, [], ◌+◌, length, ap, ◌∙◌}
use Rattle.cse_repeat_rules.specs.Repeated.{from_earlier}
use Rattle.cse_deadcode.specs.Times.{time_in}
use Rattle.cse_deadcode.specs.Repeats.{repeated, without_repeat}
use Rattle.cse_deadcode.proofs.Noted.{remaking_more}
use Rattle.cse_deadcode.proofs.repeats.without_repeats.Goals as goal

pub loop-instr-preserved : goal.loop-instr-preserved
loop-instr-preserved c =
    let next : c.loop-instr.instr-iterator.rest.items ≡ c.in-Some.instr ∷ c.next.new.self.rest.items = search rules in
    let now : c.len-in-loop-instr.result + 1 ≡ length c.loop-instr.made.items + 1 = search rules in
    let pushed : c.push.new.self.items ≡ c.loop-instr.made.items ++ c.in_ok-instr.instr ∷ [] = search rules in
    remaking_more without_repeat c.args.code c.loop-instr.instr-iterator.rest.items c.next.new.self.rest.items c.loop-instr.made.items
    c.push.new.self.items c.loop-instr.times c.note_instr.new.self c.in-Some.instr c.in_ok-instr.instr
    (c.len-in-loop-instr.result + 1) next
    (c.in_ok-instr.ensures
    ∙ ap (λ o. from_earlier o c.in-Some.instr)
    (c.repeated-earlier.ensures
    ∙ ap (λ code. repeated (time_in c.loop-instr.times) code c.in-Some.instr) c.as_slice.ensures.value))
    now c.in_ok-note_instr.ensures pushed c.loop-instr.invariant
