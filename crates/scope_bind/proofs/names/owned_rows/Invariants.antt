use Rattle.scope_bind.specs.Owned.{owned_mark}
use Rattle.scope_bind.specs.Rows.{AreRowsUpTo}
use Rattle.scope_bind.proofs.names.owned_rows.Given as goal

abbrev pub invariant-loop-n : goal.invariant-loop-n
invariant-loop-n l = AreRowsUpTo (owned_mark l.tree) l.n l.rows.items
