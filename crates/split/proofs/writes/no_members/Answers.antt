use Rattle.std.proofs.Common.{◌≡◌, arith}
use Rattle.split.proofs.Grouping.{none_more, none_len, none_grouped}
use Rattle.split.proofs.writes.no_members.Goals as goal

pub loop-number-preserved : goal.loop-number-preserved
loop-number-preserved c =
    record {
      len = none_len c.loop-number.groups.items c.push.new.self.items _ c.loop-number._number c.in_ok-push.ensures.items
          c.loop-number.invariant.len;
      none = none_more c.loop-number.groups.items c.push.new.self.items _ c.in_ok-push.ensures.items c.new.ensures.items
          c.loop-number.invariant.none;
    }

pub returns : goal.returns
returns c =
    let up = c.loop-number-test.false in
    let down = c.loop-number.auto._number-end in
    let all : c.loop-number._number ≡ c.args.free = omega (arith, up, down) in
    none_grouped c.args.free c.loop-number._number c.loop-number.groups.items c.loop-number.invariant.len all c.loop-number.invariant.none
