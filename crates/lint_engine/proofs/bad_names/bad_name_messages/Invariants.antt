use Rattle.std.proofs.Common.{◌≡◌, map, take}
use Rattle.lint_engine.specs.Shown.{bad_name_message}
use Rattle.lint_engine.proofs.bad_names.bad_name_messages.Given as goal

abbrev pub invariant-loop-bad : goal.invariant-loop-bad
invariant-loop-bad l = l.messages ≡ map (bad_name_message l.file) (take l.bad-index l.names)
