use Rattle.std.proofs.Common.{◌≡◌, ◌++◌, not, map, filter, take}
use Rattle.option_words.specs.Values.{is_message_name}
use Rattle.pragma_scope.specs.Pragmas.{bad_name}
use Rattle.pragma_scope.proofs.row.push_bad_names.Given as goal

abbrev pub invariant-loop-name : goal.invariant-loop-name
invariant-loop-name l = l.bad_names.items ≡ l.initial.bad_names.items ++ map (bad_name l.action) (filter (λ name. not (is_message_name name)) (take l.name-index l.name-items))
