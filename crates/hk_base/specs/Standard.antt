-- What a contract sees of a source or a sink over std.
use Rattle.std.specs.Prelude.{ℕ}
use Rattle.hk_base.specs.Outside.{told_count}
use Rattle.hk_base.specs.declared.standard.StdSource.{StdSource}
use Rattle.hk_base.specs.declared.standard.StdSink.{StdSink}

-- the reader that a source reads from
abbrev pub reader_of : {R : Type 0} → StdSource R → R
reader_of source = source.reader

-- how often a source has failed
abbrev pub read_faults : {R : Type 0} → StdSource R → ℕ
read_faults source = told_count source.faults

-- the writer that a sink writes to
abbrev pub writer_of : {W : Type 0} → StdSink W → W
writer_of sink = sink.writer

-- how often a sink has failed
abbrev pub write_faults : {W : Type 0} → StdSink W → ℕ
write_faults sink = told_count sink.faults
