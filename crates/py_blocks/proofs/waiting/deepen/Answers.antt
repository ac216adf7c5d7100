use Rattle.std.proofs.Common.{◌≡◌, List, ◌∷◌, ◌∙◌, ap, sym, arith}
use Rattle.py_blocks.specs.Statements.{Level, nothing}
use Rattle.py_blocks.specs.Stack.{deepened}
use Rattle.py_blocks.specs.Building.{levels_of}
use Rattle.py_blocks.proofs.StackLaws.{deepened-push}
use Rattle.py_blocks.proofs.waiting.deepen.Goals as goal

pub deepen-preserved : goal.deepen-preserved
deepen-preserved c = deepened-push c.args.count _ _ _ c.in_ok-push.ensures.items c.new.ensures (omega (arith, c.deepen-test.true, c.len.ensures)) ∙ c.deepen.invariant
