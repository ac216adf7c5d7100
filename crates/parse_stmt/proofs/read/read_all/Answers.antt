use Rattle.std.proofs.Common.{rules}
use Rattle.parse_stmt.proofs.KeptLaws.{read-on, stopped-at, found-line, found-stop}
use Rattle.parse_stmt.proofs.read.read_all.Goals as goal

pub returns-in-Stop : goal.returns-in-Stop
returns-in-Stop c =
    stopped-at c.args.tokens.now c.loop-n.builder c.read_one.new.builder c.loop-n.n c.loop-n.lines.items c.in-Stop.cause c.in_ok-line.ensures.keeps c.loop-n.invariant.0 c.loop-n.invariant.1 (search rules)
    (found-stop c.args.tokens.now c.loop-n.n c.read_one.new.builder c.in_ok-line.field-0 c.in-Stop.cause c.in-Stop.is c.in_ok-line.ensures.found)

pub loop-n-preserved : goal.loop-n-preserved
loop-n-preserved c =
    read-on c.args.tokens.now c.loop-n.builder c.read_one.new.builder c.loop-n.n c.loop-n.lines.items c.push.new.self.items c.in-Line.line c.in_ok-line.ensures.keeps c.loop-n.invariant.0 c.loop-n.invariant.1
    (found-line c.args.tokens.now c.loop-n.n c.read_one.new.builder c.in_ok-line.field-0 c.in-Line.line c.in-Line.is c.in_ok-line.ensures.found) c.in_ok-push-in-Line.ensures.items
