use Rattle.std.proofs.Common.{◌≡◌, ◌++◌, map, take}
use Rattle.lint_messages.specs.Selections.{selection_of}
use Rattle.pragma_scope.proofs.row.push_rows.Given as goal

abbrev pub invariant-loop-name : goal.invariant-loop-name
invariant-loop-name l = l.rows.items ≡ l.initial.rows.items ++ map (λ name. record { region = l.region; is_on = l.is_on; selection = selection_of name }) (take l.name-index l.name-items)
