use Rattle.std.proofs.Common.{◌≡◌, ℕ, Bool, length}
use Rattle.scope_bind.specs.Lists.{IsListOf, IsListUpTo}
use Rattle.unused_names.specs.Nodes.{is_under}
use Rattle.unused_names.proofs.under.under_of.Given as goal

abbrev pub invariant-loop-n : goal.invariant-loop-n
invariant-loop-n l = record {
  known : length l.under.items ≡ l.n;
  lists : (test : ℕ → Bool) → IsListOf test l.tree l.passing → IsListUpTo (is_under test l.tree) l.n l.under.items;
}
