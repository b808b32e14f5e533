-- The reader and the writer that the adapters work on.
use Rattle.bs_io.specs.declared.adapters.ReadSource.{ReadSource}
use Rattle.bs_io.specs.declared.adapters.WriteSink.{WriteSink}

-- the reader that a source reads from, and the writer that a sink writes to
abbrev pub reader_of : {R : Type 0} → ReadSource R → R
reader_of s = s.reader

abbrev pub writer_of : {W : Type 0} → WriteSink W → W
writer_of s = s.writer
