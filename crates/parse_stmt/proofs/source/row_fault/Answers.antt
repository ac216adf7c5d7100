use Rattle.std.proofs.Common.{List, false, subst, ◌∙◌}
use Rattle.std.specs.Prelude.{IfOk, MatchOption}
use Rattle.py_blocks.specs.declared.line.Line.{Line}
use Rattle.py_blocks.specs.Rules.{AreRight, IsFirstFault}
use Rattle.parse_stmt.proofs.source.row_fault.Goals as goal

pub returns-clause-first : goal.returns-clause-first
returns-clause-first c =
    subst (λ (lines : List Line). IfOk c.first_fault.result (λ fault. MatchOption fault (AreRight false lines) (IsFirstFault false lines))) (c.as_slice.ensures.value ∙ c.in_ok-lines.ensures) c.first_fault.ensures.first
