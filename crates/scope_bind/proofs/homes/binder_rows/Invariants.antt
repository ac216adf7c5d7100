use Rattle.scope_rules.specs.Declaring.{binder_mark}
use Rattle.scope_bind.specs.Rows.{AreRowsUpTo}
use Rattle.scope_bind.proofs.homes.binder_rows.Given as goal

abbrev pub invariant-loop-n : goal.invariant-loop-n
invariant-loop-n l = AreRowsUpTo (binder_mark l.tree) l.n l.rows.items
