use Rattle.scope_bind.specs.Owned.{module_mark}
use Rattle.scope_bind.specs.Rows.{AreRowsUpTo}
use Rattle.scope_bind.proofs.names.module_rows.Given as goal

abbrev pub invariant-loop-n : goal.invariant-loop-n
invariant-loop-n l = AreRowsUpTo (module_mark l.tree) l.n l.rows.items
