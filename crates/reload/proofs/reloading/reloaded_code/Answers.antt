use Rattle.std.proofs.Common.{rules, ◌≡◌, ◌+◌, ◌∷◌}
use Rattle.pass_rules.specs.Measures.{other_operands}
use Rattle.reload.proofs.Numbers.{code_lasts, past_fits, past_lasts}
use Rattle.reload.proofs.reloading.reloaded_code.Goals as goal

pub push_instr-requires : goal.push_instr-requires
push_instr-requires c =
    let next : c.loop-instr.instr-iterator.rest.items ≡ c.in-Some.instr ∷ c.next.new.self.rest.items = search rules in
    record {
      room =
          past_fits c.loop-instr.number (c.args.free + other_operands c.args.code) c.loop-instr.instr-iterator.rest.items c.in-Some.instr
          c.next.new.self.rest.items next c.loop-instr.invariant.room c.requires.room;
    }

pub loop-instr-preserved : goal.loop-instr-preserved
loop-instr-preserved c =
    let next : c.loop-instr.instr-iterator.rest.items ≡ c.in-Some.instr ∷ c.next.new.self.rest.items = search rules in
    record {
      code =
          code_lasts c.loop-instr.number c.in_ok-number.number c.loop-instr.made.items c.push_instr.new.code.items _
          c.loop-instr.instr-iterator.rest.items c.in-Some.instr c.next.new.self.rest.items next c.in_ok-number.ensures.number
          c.in_ok-number.ensures.code c.loop-instr.invariant.code;
      room =
          past_lasts c.loop-instr.number c.in_ok-number.number (c.args.free + other_operands c.args.code) c.loop-instr.instr-iterator.rest.items
          c.in-Some.instr c.next.new.self.rest.items next c.in_ok-number.ensures.number c.loop-instr.invariant.room;
    }
