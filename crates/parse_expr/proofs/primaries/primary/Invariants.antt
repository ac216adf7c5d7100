use Rattle.std.proofs.Common.{length, drop}
use Rattle.py_language.specs.Readers.{behind}
use Rattle.py_grammar.specs.Firsts.{trailer_first}
use Rattle.py_grammar.specs.Reading.{primary_at, trailer_at}
use Rattle.py_grammar.specs.ReadingLines.{phrase_at}
use Rattle.py_forest.specs.Forests.{trees}
use Rattle.parse_steps.proofs.Loops.{TurnLoop}
use Rattle.parse_expr.proofs.primaries.primary.Given as goal

abbrev pub invariant-trailers : goal.invariant-trailers
invariant-trailers g l =
    TurnLoop trailer_first (trailer_at (phrase_at l.depth)) (drop l.fn.rest l.fn.line) (behind (trees l.fn.forest) (primary_at (phrase_at l.depth) (drop l.fn.rest l.fn.line))) (trees l.fn.forest) (trees l.forest) (drop l.rest l.fn.line)

abbrev pub decreases-trailers : goal.decreases-trailers
decreases-trailers g l = length (drop l.rest l.fn.line)
