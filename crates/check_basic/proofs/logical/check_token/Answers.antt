use Rattle.std.proofs.Common.{arith}
use Rattle.check_basic.proofs.NodeSteps.{semicolon_past}
use Rattle.check_basic.proofs.logical.check_token.Goals as goal

pub returns-then-i-count : goal.returns-then-i-count
returns-then-i-count c = semicolon_past _ c.args.file c.args.tokens.now c.args.i (omega arith)
