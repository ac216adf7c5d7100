-- What a sink that fails at one piece shows, and what it gives to the sink within it.
use Rattle.std.specs.Prelude.{◌≡◌, ℕ, List, if◌then◌else◌, ◌==◌}
use Rattle.lint_outside.specs.Counts.{one_more}
use Rattle.lint_outside.specs.FirstPart.{first_part}
use Rattle.lint_outside.specs.MemSink.{sink_bytes, sink_room}
use Rattle.lint_outside.specs.declared.failing_sink.FailingSink.{FailingSink}

-- what was written, in order
abbrev pub failing_bytes : FailingSink → List ℕ
failing_bytes sink = sink_bytes sink.inner

-- how many bytes the sink within still takes
abbrev pub failing_room : FailingSink → ℕ
failing_room sink = sink_room sink.inner

-- the number of the piece that fails, counted from 1
abbrev pub failing_piece : FailingSink → ℕ
failing_piece sink = sink.nth

-- how many bytes are taken of that piece
abbrev pub failing_taken : FailingSink → ℕ
failing_taken sink = sink.taken

-- how many pieces there were so far
abbrev pub pieces_made : FailingSink → ℕ
pieces_made sink = sink.pieces

-- how often it has failed
abbrev pub failing_faults : FailingSink → ℕ
failing_faults sink = sink.faults

-- what the sink gives of its next piece to the sink within it
abbrev pub given_of : FailingSink → List ℕ → List ℕ
given_of sink piece = if one_more (pieces_made sink) == failing_piece sink then first_part (failing_taken sink) piece else piece

-- the piece was counted, and which piece fails stays
pub record CountsPiece (old new : FailingSink) : Type 0 where
  pub made : pieces_made new ≡ one_more (pieces_made old)
  pub piece : failing_piece new ≡ failing_piece old
  pub taken : failing_taken new ≡ failing_taken old
