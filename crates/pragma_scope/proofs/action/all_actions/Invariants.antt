use Rattle.std.proofs.Common.{◌≡◌, take}
use Rattle.std.specs.List.{flat_map}
use Rattle.pragma_scope.specs.Actions.{actions_of}
use Rattle.pragma_scope.proofs.action.all_actions.Given as goal

abbrev pub invariant-loop-comment : goal.invariant-loop-comment
invariant-loop-comment l = l.actions.items ≡ flat_map (actions_of l.text) (take l.comment-index l.comments)
