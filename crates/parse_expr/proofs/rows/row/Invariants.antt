use Rattle.std.proofs.Common.{length, drop}
use Rattle.py_language.specs.Readers.{behind, both, many}
use Rattle.py_grammar.specs.Terminals.{code}
use Rattle.py_grammar.specs.ReadingLines.{phrase_at}
use Rattle.py_forest.specs.Forests.{trees}
use Rattle.parse_steps.proofs.Loops.{Loop}
use Rattle.parse_expr.specs.Levels.{level_first, operator_at, within_at}
use Rattle.parse_expr.proofs.rows.row.Given as goal

abbrev pub invariant-operands : goal.invariant-operands
invariant-operands g l =
    let p = within_at (phrase_at l.depth) l.level in
    let step = both (operator_at (phrase_at l.depth) l.level) p in
    Loop (level_first l.level) step (behind (trees l.fn.forest) (both p (many code (level_first l.level) step) (drop l.fn.rest l.fn.line))) (trees l.forest) (drop l.rest l.fn.line)

abbrev pub decreases-operands : goal.decreases-operands
decreases-operands g l = length (drop l.rest l.fn.line)
