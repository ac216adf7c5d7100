use Rattle.std.proofs.Common.{length, drop}
use Rattle.py_language.specs.Readers.{behind, many}
use Rattle.py_grammar.specs.Terminals.{code}
use Rattle.py_grammar.specs.ReadingLines.{phrase_at}
use Rattle.py_forest.specs.Forests.{trees}
use Rattle.parse_steps.proofs.Loops.{Loop}
use Rattle.parse_parts.specs.Rounds.{round_first, round_at}
use Rattle.parse_parts.proofs.rounds.again.Given as goal

abbrev pub invariant-rounds : goal.invariant-rounds
invariant-rounds g l =
    let step = round_at (phrase_at l.depth) l.round in
    Loop (round_first l.round) step (behind (trees l.fn.forest) (many code (round_first l.round) step (drop l.fn.rest l.fn.line))) (trees l.forest) (drop l.rest l.fn.line)

abbrev pub decreases-rounds : goal.decreases-rounds
decreases-rounds g l = length (drop l.rest l.fn.line)
