use Rattle.std.proofs.Common.{length, drop}
use Rattle.py_language.specs.Readers.{behind}
use Rattle.py_grammar.specs.Words.{comma}
use Rattle.py_grammar.specs.Reading.{commas}
use Rattle.py_grammar.specs.ReadingLines.{phrase_at}
use Rattle.py_forest.specs.Forests.{trees}
use Rattle.parse_steps.proofs.Loops.{CommaLoop}
use Rattle.parse_pattern.specs.Items.{item_at, item_first}
use Rattle.parse_pattern.proofs.lists.list.Given as goal

abbrev pub invariant-items : goal.invariant-items
invariant-items g l =
    let p = item_at (phrase_at l.depth) l.kind in
    CommaLoop comma (item_first l.kind) p (behind (trees l.fn.forest) (commas (item_first l.kind) p (drop l.fn.rest l.fn.line))) (trees l.forest) (drop l.rest l.fn.line)

abbrev pub decreases-items : goal.decreases-items
decreases-items g l = length (drop l.rest l.fn.line)
