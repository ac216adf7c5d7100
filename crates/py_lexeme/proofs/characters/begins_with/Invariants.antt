use Rattle.std.proofs.Common.{◌≡◌, length}
use Rattle.py_lexeme.specs.Characters.{begins_with}
use Rattle.py_lexeme.proofs.characters.begins_with.Given as goal

abbrev pub invariant-loop-op : goal.invariant-loop-op
invariant-loop-op l = begins_with l.op l.cs ≡ begins_with l.initial.op l.initial.cs

abbrev pub decreases-loop-op : goal.decreases-loop-op
decreases-loop-op l = length l.op
