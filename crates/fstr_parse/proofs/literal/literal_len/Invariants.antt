use Rattle.std.proofs.Common.{ℕ, length}
use Rattle.fstr_parse.specs.Scan.{Leads}
use Rattle.fstr_parse.specs.Literals.{same_depth}
use Rattle.fstr_parse.specs.Scan.{unit_len}
use Rattle.fstr_parse.proofs.RowLaws.{IsBehind}
use Rattle.fstr_parse.proofs.literal.literal_len.Given as goal

abbrev pub invariant-loop-rest : goal.invariant-loop-rest
invariant-loop-rest l = record {
  units : ℕ;
  row : Leads (unit_len l.raw) same_depth units l.depth l.text l.depth l.rest;
  behind : IsBehind l.text l.rest;
}

abbrev pub decreases-loop-rest : goal.decreases-loop-rest
decreases-loop-rest l = length l.rest
