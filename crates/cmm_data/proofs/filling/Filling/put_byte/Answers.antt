use Rattle.std.proofs.Common.{◌≡◌, ◌∷◌, [], ◌++◌, length, length-append, map, ap, arith}
use Rattle.cmm_data.specs.Contents.{Plain, word_of_bytes}
use Rattle.cmm_data.proofs.Cells.{filled}
use Rattle.cmm_data.proofs.filling.Filling.put_byte.Goals as goal

pub returns-in_ok-push-2 : goal.returns-in_ok-push-2
returns-in_ok-push-2 c =
    let before = c.args.self.now.pending.items in
    let whole = c.push.new.self.items in
    let is : whole ≡ before ++ c.args.byte ∷ [] = c.in_ok-push.ensures.items in
    let eight : length whole ≡ 8 = omega (arith, c.len.ensures, c.if-len-eq8.true) in
    let value : c.word_of-word.result ≡ word_of_bytes (map Plain whole) = cc (c.word_of-word.ensures, c.as_slice.ensures.value) in
    record {
      small = omega (arith, ap length c.clear.ensures.items);
      count = omega (arith, ap length c.clear.ensures.items, ap length is, length-append before (c.args.byte ∷ []), eight);
      cells = λ rest.
          filled c.args.self.now.cells.items c.push-then-len-eq8.new.self.items before whole c.clear.new.self.items c.args.byte c.word_of-word.result rest
          is eight value c.in_ok-push-2.ensures.items c.clear.ensures.items;
    }
