use Rattle.std.proofs.Common.{◌≡◌, take}
use Rattle.std.specs.List.{flat_map}
use Rattle.pragma_scope.specs.Pragmas.{bad_names_of_action}
use Rattle.pragma_scope.proofs.row.bad_names_of.Given as goal

abbrev pub invariant-loop-action : goal.invariant-loop-action
invariant-loop-action l = l.bad_names.items ≡ flat_map bad_names_of_action (take l.action-index l.actions)
