use Rattle.std.proofs.Common.{length, drop}
use Rattle.py_language.specs.Readers.{behind, separated}
use Rattle.py_grammar.specs.Terminals.{code}
use Rattle.py_grammar.specs.ReadingLines.{phrase_at}
use Rattle.py_forest.specs.Forests.{trees}
use Rattle.parse_steps.proofs.Loops.{CommaLoop}
use Rattle.parse_statement.specs.Parts.{part_separator, part_first, part_at}
use Rattle.parse_statement.proofs.part.list.Given as goal

abbrev pub invariant-parts : goal.invariant-parts
invariant-parts g l =
    let p = part_at (phrase_at l.depth) l.part in
    CommaLoop (part_separator l.part) (part_first l.part) p (behind (trees l.fn.forest) (separated code (part_separator l.part) (part_first l.part) p (drop l.fn.rest l.fn.line))) (trees l.forest) (drop l.rest l.fn.line)

abbrev pub decreases-parts : goal.decreases-parts
decreases-parts g l = length (drop l.rest l.fn.line)
