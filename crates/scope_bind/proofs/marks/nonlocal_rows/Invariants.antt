use Rattle.scope_rules.specs.Declaring.{nonlocal_mark}
use Rattle.scope_bind.specs.Rows.{AreRowsUpTo}
use Rattle.scope_bind.proofs.marks.nonlocal_rows.Given as goal

abbrev pub invariant-loop-n : goal.invariant-loop-n
invariant-loop-n l = AreRowsUpTo (nonlocal_mark l.tree) l.n l.rows.items
