-- What a sink in memory shows: the bytes that it took, the room that is left, and how often it failed.
use Rattle.std.specs.Prelude.{ℕ, List, [], length, if◌then◌else◌, nat_le}
use Rattle.lint_outside.specs.declared.mem_sink.MemSink.{MemSink}

-- what was written, in order
abbrev pub sink_bytes : MemSink → List ℕ
sink_bytes sink = sink.bytes.items

-- how many bytes it still takes
abbrev pub sink_room : MemSink → ℕ
sink_room sink = sink.room

-- how often it has failed
abbrev pub sink_faults : MemSink → ℕ
sink_faults sink = sink.faults

-- what a sink with so much room takes of a piece: all of it, or nothing of a longer one
abbrev pub taken_of : ℕ → List ℕ → List ℕ
taken_of room piece = if nat_le (length piece) room then piece else []
