use Rattle.std.proofs.Common.{◌+◌, ap, ◌∙◌, arith}
use Rattle.parse_stmt.specs.Reading.{row_at}
use Rattle.parse_stmt.proofs.KeptLaws.{rows-on, rows-end}
use Rattle.parse_stmt.proofs.row.rows_of.Goals as goal

pub returns : goal.returns
returns c = rows-end c.args.tokens.now c.args.lines.now c.loop-n.rows.items c.loop-n.n c.loop-n-test.false c.loop-n.invariant

pub loop-n-preserved : goal.loop-n-preserved
loop-n-preserved c =
    rows-on c.args.tokens.now c.args.lines.now c.loop-n.rows.items c.push.new.self.items c.row_at.result c.loop-n.n (c.loop-n.n + 1) c.index-lines-n.result c.loop-n-test.true (omega arith)
    (c.row_at.ensures ∙ ap (row_at c.args.tokens.now c.loop-n.n) c.index-lines-n.is) c.in_ok-push.ensures.items c.loop-n.invariant
