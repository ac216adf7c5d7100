use Rattle.pragma_scope.proofs.CursorLaws.{Counted}
use Rattle.pragma_scope.proofs.cursor.tokens_before.Given as goal

abbrev pub invariant-loop-i : goal.invariant-loop-i
invariant-loop-i l = Counted l.tokens l.place l.i
