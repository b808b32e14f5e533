-- What a source or a sink over memory holds, and what a call leaves.
use Rattle.std.specs.Prelude.{ℕ, ◌+◌, ◌-◌, ◌^◌, min, List, ◌++◌, length, drop}

-- a source over memory
pub record Reading : Type 0 where
  -- the bytes that are left
  pub left : List ℕ
  -- the numbers, from 0, of the calls that fail
  pub fails : List ℕ
  -- the most bytes that one call moves
  pub most : ℕ
  -- how many calls were made, and how many of them failed
  pub calls : ℕ
  pub faults : ℕ

-- a sink over memory
pub record Writing : Type 0 where
  -- the bytes that it holds, and how many it can hold
  pub held : List ℕ
  pub room : ℕ
  pub fails : List ℕ
  pub most : ℕ
  pub calls : ℕ
  pub faults : ℕ

-- one more, up to the greatest u64, where a count stays
abbrev pub counted : ℕ → ℕ
counted n = min (n + 1) (2 ^ 64 - 1)

-- how many bytes a read into so much space moves, and a write of such a piece
abbrev pub read_count : Reading → ℕ → ℕ
read_count s space = min (length s.left) (min space s.most)

abbrev pub write_count : Writing → ℕ → ℕ
write_count s size = min (s.room - length s.held) (min size s.most)

-- after a read that moved so many bytes, and after one that failed
abbrev pub after_read : Reading → ℕ → Reading
after_read s count =
    record
    { left = drop count s.left; fails = s.fails; most = s.most; calls = counted s.calls; faults = s.faults }

abbrev pub after_failed_read : Reading → Reading
after_failed_read s =
    record
    { left = s.left; fails = s.fails; most = s.most; calls = counted s.calls; faults = counted s.faults }

-- after a write that appended these bytes, and after one that failed
abbrev pub after_write : Writing → List ℕ → Writing
after_write s bytes =
    record
    { held = s.held ++ bytes; room = s.room; fails = s.fails; most = s.most; calls = counted s.calls; faults = s.faults }

abbrev pub after_failed_write : Writing → Writing
after_failed_write s =
    record
    { held = s.held; room = s.room; fails = s.fails; most = s.most; calls = counted s.calls; faults = counted s.faults }
