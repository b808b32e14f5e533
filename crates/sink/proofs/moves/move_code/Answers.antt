use Rattle.std.proofs.Common.{◌≡◌, ◌∷◌, ◌++◌, ◌∙◌, [], List, length, ap, arith}
use Rattle.mach_ir.specs.declared.mach.Instr.{Instr}
use Rattle.sink.specs.Runs.{straight_run_begins}
use Rattle.sink.proofs.Copying.{copying_more}
use Rattle.sink.proofs.moves.move_code.Goals as goal

pub loop-instr-preserved : goal.loop-instr-preserved
loop-instr-preserved c =
    let popped : c.loop-instr.items.items ≡ c.pop.new.self.items ++ c.in-Some.instr ∷ [] = c.in-Some.ensures.items in
    let count = c.len-place.ensures in
    let place : c.len-place.result ≡ length c.pop.new.self.items = omega (arith, count) in
    let begins : c.begins_at-begins.result ≡ straight_run_begins c.pop.new.self.items c.len-place.result =
    c.begins_at-begins.ensures ∙ ap (λ (xs : List Instr). straight_run_begins xs c.len-place.result) c.deref.ensures.value in
    copying_more c.args.moves.now c.args.code c.loop-instr.items.items c.pop.new.self.items c.in-Some.instr c.begins_at-begins.result
    c.len-place.result c.loop-instr.made c.push_instr.new.made popped place begins c.loop-instr.invariant c.in_ok-push_instr.ensures
