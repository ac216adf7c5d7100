use Rattle.std.proofs.Common.{length, ◌≤◌}
use Rattle.py_lexeme.specs.Pieces.{Cuts}
use Rattle.py_lexeme.proofs.cutting.cut_up.Given as goal

abbrev pub invariant-loop-rest : goal.invariant-loop-rest
invariant-loop-rest l = record { so_far : Cuts l.cs l.pieces.items l.rest; within : length l.rest ≤ length l.cs }

abbrev pub decreases-loop-rest : goal.decreases-loop-rest
decreases-loop-rest l = length l.rest
