use Rattle.std.proofs.Common.{◌≡◌, ◌++◌, map}
use Rattle.std.specs.List.{flat_map}
use Rattle.pragma_scope.specs.Actions.{actions_in}
use Rattle.pragma_scope.proofs.action.push_parts.Given as goal

abbrev pub invariant-loop-part : goal.invariant-loop-part
invariant-loop-part l = l.actions.items ≡ l.initial.actions.items ++ flat_map (actions_in l.comment) (map (λ x. x.now) l.yielded)
