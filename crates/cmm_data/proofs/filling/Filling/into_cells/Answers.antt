use Rattle.std.proofs.Common.{◌≡◌, ◌∙◌, ◌<◌, ◌≤◌, length, map, ap, arith}
use Rattle.cmm_data.specs.Contents.{Plain, word_of_bytes}
use Rattle.cmm_data.proofs.Cells.{ended, ended-whole}
use Rattle.cmm_data.proofs.filling.Filling.into_cells.Goals as goal
use Rattle.cmm_data.proofs.filling.Filling.into_cells.Goals.{then-len-gt0+in_ok-push, else-len-gt0}

pub returns : goal.returns
returns c =
    let left = c.args.self.pending.items in
    elim c.if-len-gt0.branch [
      | then-len-gt0+in_ok-push w ↦
          let some : 0 < length left = omega (arith, c.len.ensures, w.if-len-gt0.true) in
          let value : w.word_of.result ≡ word_of_bytes (map Plain left) = cc (w.word_of.ensures, w.as_slice.ensures.value) in
          ap (λ v. v.items) w.cells-is
          ∙ ended c.args.self.cells.items w.push.new.self.items left w.word_of.result some c.requires value w.in_ok-push.ensures.items
      | else-len-gt0 w ↦
          let none : length left ≤ 0 = omega (arith, c.len.ensures, w.if-len-gt0.false) in
          ap (λ v. v.items) w.cells-is ∙ ended-whole c.args.self.cells.items left none
    ]
