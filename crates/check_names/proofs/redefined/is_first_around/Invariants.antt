use Rattle.std.proofs.Common.{◌≡◌, ◌<◌}
use Rattle.std.specs.List.{list_any}
use Rattle.tree_nodes.specs.Trees.{count_of}
use Rattle.scope_rules.specs.Places.{chain}
use Rattle.check_names.specs.Redefined.{is_first_binder, is_first_around}
use Rattle.check_names.proofs.redefined.is_first_around.Given as goal

abbrev pub invariant-outwards : goal.invariant-outwards
invariant-outwards l = record {
  made : l.s.0 < count_of l.tree;
  same : list_any (is_first_binder l.tree l.n.0 l.name) (chain l.tree l.s.0) ≡ is_first_around l.tree l.n.0 l.name;
}

abbrev pub decreases-outwards : goal.decreases-outwards
decreases-outwards l = l.s.0
