use Rattle.scope_rules.specs.Declaring.{global_mark}
use Rattle.scope_bind.specs.Rows.{AreRowsUpTo}
use Rattle.scope_bind.proofs.marks.global_rows.Given as goal

abbrev pub invariant-loop-n : goal.invariant-loop-n
invariant-loop-n l = AreRowsUpTo (global_mark l.tree) l.n l.rows.items
