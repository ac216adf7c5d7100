use Rattle.std.proofs.Common.{◌+◌, ◌≤◌, ℕ, length}
use Rattle.fstr_parse.specs.Scan.{Leads}
use Rattle.fstr_parse.specs.Expressions.{brackets_behind}
use Rattle.fstr_parse.specs.Scan.{step_len}
use Rattle.fstr_parse.proofs.RowLaws.{IsBehind}
use Rattle.fstr_parse.proofs.expression.expression_len.Given as goal

abbrev pub invariant-loop-len : goal.invariant-loop-len
invariant-loop-len l = record {
  steps : ℕ;
  row : Leads step_len brackets_behind steps 0 l.text l.brackets l.rest;
  behind : IsBehind l.text l.rest;
  room : l.brackets + length l.rest ≤ length l.text;
}

abbrev pub decreases-loop-len : goal.decreases-loop-len
decreases-loop-len l = length l.rest
