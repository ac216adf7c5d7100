use Rattle.std.proofs.Common.{length, drop}
use Rattle.py_language.specs.Readers.{behind, both, many}
use Rattle.py_grammar.specs.Terminals.{code}
use Rattle.py_grammar.specs.Words.{bar}
use Rattle.py_grammar.specs.Reading.{token}
use Rattle.py_grammar.specs.ReadingPatterns.{closed_pattern_at}
use Rattle.py_grammar.specs.ReadingLines.{phrase_at}
use Rattle.py_forest.specs.Forests.{trees}
use Rattle.parse_steps.proofs.Loops.{Loop}
use Rattle.parse_pattern.proofs.patterns.or_pattern.Given as goal

abbrev pub invariant-alternatives : goal.invariant-alternatives
invariant-alternatives g l =
    let p = closed_pattern_at (phrase_at l.depth) in
    let step = both (token bar) p in
    Loop bar step (behind (trees l.fn.forest) (both p (many code bar step) (drop l.fn.rest l.fn.line))) (trees l.forest) (drop l.rest l.fn.line)

abbrev pub decreases-alternatives : goal.decreases-alternatives
decreases-alternatives g l = length (drop l.rest l.fn.line)
