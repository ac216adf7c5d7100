use Rattle.std.proofs.Common.{length, drop}
use Rattle.py_language.specs.Readers.{behind, both}
use Rattle.py_grammar.specs.Words.{comma}
use Rattle.py_grammar.specs.Reading.{token, joined_}
use Rattle.py_grammar.specs.ReadingHeaders.{with_item_at}
use Rattle.py_grammar.specs.ReadingLines.{phrase_at}
use Rattle.py_forest.specs.Forests.{trees}
use Rattle.parse_steps.proofs.Loops.{Loop}
use Rattle.parse_header.proofs.withs.joined_items.Given as goal

abbrev pub invariant-items : goal.invariant-items
invariant-items g l =
    let p = with_item_at (phrase_at l.depth) in
    Loop comma (both (token comma) p) (behind (trees l.fn.forest) (joined_ p (drop l.fn.rest l.fn.line))) (trees l.forest) (drop l.rest l.fn.line)

abbrev pub decreases-items : goal.decreases-items
decreases-items g l = length (drop l.rest l.fn.line)
