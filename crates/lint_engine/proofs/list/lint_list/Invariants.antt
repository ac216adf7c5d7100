use Rattle.std.proofs.Common.{◌≤◌, ◌*◌, ◌^◌, drop}
use Rattle.std.specs.List.{AllByRecursion}
use Rattle.file_list.specs.Entries.{HasShortSource}
use Rattle.lint_engine.proofs.ShownLaws.{GoesOn}
use Rattle.lint_engine.proofs.list.lint_list.Given as goal

abbrev pub invariant-loop-i : goal.invariant-loop-i
invariant-loop-i g l = record {
  goes_on : GoesOn l.options l.reading l.i (record { messages = l.messages; statements = l.statements });
  few : l.statements ≤ l.i * 2 ^ 32;
  short : AllByRecursion (λ listed. HasShortSource listed.entry) (drop l.i l.reading);
}
