use Rattle.std.proofs.Common.{◌≡◌, ◌-◌, length}
use Rattle.py_blocks.specs.Statements.{nothing}
use Rattle.py_blocks.specs.Stack.{deepened}
use Rattle.py_blocks.specs.Building.{levels_of}
use Rattle.py_blocks.proofs.waiting.deepen.Given as goal

abbrev pub invariant-deepen : goal.invariant-deepen
invariant-deepen l = deepened nothing l.count (levels_of l.levels.items) ≡ deepened nothing l.count (levels_of l.initial.levels.items)

abbrev pub decreases-deepen : goal.decreases-deepen
decreases-deepen l = l.count - length l.levels.items
