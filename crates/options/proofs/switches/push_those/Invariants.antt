use Rattle.std.proofs.Common.{◌≡◌, ◌++◌, filter, take}
use Rattle.std.specs.List.{flat_map}
use Rattle.options.specs.Switches.{agrees, holds_all, switches_by}
use Rattle.options.proofs.switches.push_those.Given as goal

abbrev pub invariant-loop-edit : goal.invariant-loop-edit
invariant-loop-edit l = l.switches.items ≡ l.initial.switches.items ++ flat_map switches_by (filter (λ e. agrees l.with_all (holds_all e)) (take l.edit-index l.edits))
