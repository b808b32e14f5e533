use Rattle.std.proofs.Common.{rules, ◌≡◌, arith, length, take}
use Rattle.bs_io.proofs.Progress.{Consumes-over}
use Rattle.bs_io.proofs.whole.read_all.Goals as goal

pub loop-filled-preserved : goal.loop-filled-preserved
loop-filled-preserved g c =
    let long : length c.read_at.new.buffer ≡ c.make_room.new.buffer.len = search rules in
    let was : length c.make_room.new.buffer.items ≡ c.make_room.new.buffer.len = search rules in
    let kept : take c.loop-filled.filled c.make_room.new.buffer.items ≡ take c.loop-filled.filled c.loop-filled.buffer.items = search rules in
    record {
      filled_within = omega (arith, c.in_ok-count.ensures.fits, long);
      buffer_within = c.make_room.ensures.length;
      taken = Consumes-over _ _ _ c.loop-filled.buffer.items _ c.as_mut_slice.result.now _ _ c.loop-filled.filled _ long was
          c.in_ok-count.ensures.front c.as_mut_slice.ensures.value kept c.loop-filled.invariant.taken c.in_ok-count.ensures.taken;
      never_falls = omega (arith, c.loop-filled.invariant.never_falls, c.in_ok-count.ensures.never_falls);
    }
