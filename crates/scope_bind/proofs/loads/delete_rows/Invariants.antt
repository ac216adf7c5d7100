use Rattle.scope_rules.specs.Answers.{delete_mark}
use Rattle.scope_bind.specs.Rows.{AreRowsUpTo}
use Rattle.scope_bind.proofs.loads.delete_rows.Given as goal

abbrev pub invariant-loop-n : goal.invariant-loop-n
invariant-loop-n l = AreRowsUpTo (delete_mark l.tree) l.n l.rows.items
