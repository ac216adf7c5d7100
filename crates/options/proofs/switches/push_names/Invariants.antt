use Rattle.std.proofs.Common.{◌≡◌, ◌++◌, map, take}
use Rattle.lint_messages.specs.Selections.{selection_of}
use Rattle.options.proofs.switches.push_names.Given as goal

abbrev pub invariant-loop-name : goal.invariant-loop-name
invariant-loop-name l = l.switches.items ≡ l.initial.switches.items ++ map (λ name. record { selection = selection_of name; is_on = l.is_on }) (take l.name-index l.name-items)
