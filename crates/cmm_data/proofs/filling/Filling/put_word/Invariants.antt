use Rattle.std.proofs.Common.{◌-◌, ◌<◌}
use Rattle.cmm_data.specs.Contents.{little_endian}
use Rattle.cmm_data.specs.Filling.{pending_bytes, Puts}
use Rattle.cmm_data.specs.declared.filling.Filling.{Filling}
use Rattle.cmm_data.proofs.filling.Filling.put_word.Given as goal

-- what puts the bytes that are left puts them all
abbrev pub invariant-loop-index : goal.invariant-loop-index
invariant-loop-index l =
    record {
      small : pending_bytes l.self < 8;
      left : (after : Filling) → Puts l.self after (little_endian (l.count - l._index) l.left) → Puts l.fn.self after (little_endian l.count l.word);
    }
