-- What a writer of the system as a sink shows: the writer, and how often it has failed.
use Rattle.std.specs.Prelude.{ℕ}
use Rattle.lint_outside.specs.declared.real_sink.RealSink.{RealSink}

abbrev pub real_writer : {W : Type 0} → RealSink W → W
real_writer sink = sink.writer

abbrev pub writer_faults : {W : Type 0} → RealSink W → ℕ
writer_faults sink = sink.faults
