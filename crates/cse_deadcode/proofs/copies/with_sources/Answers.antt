use Rattle.std.proofs.Common.{rules, ◌≡◌, ◌∷◌, ◌++◌, [], ◌+◌, length, ap, ◌∙◌}
use Rattle.cse_deadcode.specs.Times.{time_in}
use Rattle.cse_deadcode.specs.Copies.{source_of, read_by, read_from_sources}
use Rattle.cse_deadcode.proofs.Noted.{remaking_more}
use Rattle.cse_deadcode.proofs.copies.with_sources.Goals as goal

pub loop-instr-preserved : goal.loop-instr-preserved
loop-instr-preserved c =
    let next : c.loop-instr.instr-iterator.rest.items ≡ c.in-Some.instr ∷ c.next.new.self.rest.items = search rules in
    let now : c.len-in-loop-instr.result + 1 ≡ length c.loop-instr.made.items + 1 = search rules in
    let pushed : c.push.new.self.items ≡ c.loop-instr.made.items ++ c.read_sources-instr.result ∷ [] = search rules in
    remaking_more read_from_sources c.args.code c.loop-instr.instr-iterator.rest.items c.next.new.self.rest.items c.loop-instr.made.items
    c.push.new.self.items c.loop-instr.times c.note_instr.new.self c.in-Some.instr c.read_sources-instr.result
    (c.len-in-loop-instr.result + 1) next
    (c.read_sources-instr.ensures
    ∙ ap (λ code. read_by (source_of (time_in c.loop-instr.times) code) c.in-Some.instr) c.as_slice.ensures.value)
    now c.in_ok-note_instr.ensures pushed c.loop-instr.invariant
