use Rattle.scope_bind.specs.Lists.{IsListUpTo}
use Rattle.unused_names.specs.Exports.{is_all_value}
use Rattle.unused_names.proofs.exports.all_values.Given as goal

abbrev pub invariant-loop-n : goal.invariant-loop-n
invariant-loop-n l = IsListUpTo (is_all_value l.tree) l.n l.values.items
