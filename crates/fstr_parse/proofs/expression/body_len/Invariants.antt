use Rattle.std.proofs.Common.{◌≡◌, ◌+◌, ◌≤◌, length}
use Rattle.fstr_parse.specs.Scan.{body_len}
use Rattle.fstr_parse.proofs.expression.body_len.Given as goal

abbrev pub invariant-loop-rest : goal.invariant-loop-rest
invariant-loop-rest l =
    (length l.text + body_len l.quote l.count l.rest ≡ length l.rest + body_len l.quote l.count l.text) × (length l.rest ≤ length l.text)

abbrev pub decreases-loop-rest : goal.decreases-loop-rest
decreases-loop-rest l = length l.rest
