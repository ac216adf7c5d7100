use Rattle.std.proofs.Common.{◌≤◌, vec_len}
use Rattle.lint_outside.proofs.real_files.names_in.Given as goal

abbrev pub invariant-loop-entry : goal.invariant-loop-entry
invariant-loop-entry g l = vec_len l.names ≤ l.most
