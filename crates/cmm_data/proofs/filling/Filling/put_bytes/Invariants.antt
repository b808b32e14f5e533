use Rattle.std.proofs.Common.{◌<◌, drop, map}
use Rattle.cmm_data.specs.Contents.{Plain}
use Rattle.cmm_data.specs.Filling.{pending_bytes, Puts}
use Rattle.cmm_data.specs.declared.filling.Filling.{Filling}
use Rattle.cmm_data.proofs.filling.Filling.put_bytes.Given as goal

-- what puts the bytes that are left puts them all
abbrev pub invariant-loop-byte : goal.invariant-loop-byte
invariant-loop-byte l =
    record {
      small : pending_bytes l.self < 8;
      left : (after : Filling) → Puts l.self after (map Plain (drop l.byte-index l.bytes)) → Puts l.fn.self after (map Plain l.bytes);
    }
