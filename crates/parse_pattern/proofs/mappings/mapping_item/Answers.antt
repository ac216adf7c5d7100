use Rattle.std.proofs.Common.{◌≡◌, true, drop, arith}
use Rattle.py_language.specs.Sets.{at}
use Rattle.py_grammar.specs.Terminals.{code}
use Rattle.py_grammar.specs.Words.{double_star}
use Rattle.py_grammar.specs.ReadingPatterns.{mapping_item_at}
use Rattle.py_grammar.specs.ReadingLines.{phrase_at}
use Rattle.parse_pattern.specs.Items.{mapping_rest_at}
use Rattle.parse_pattern.proofs.mappings.mapping_item.Goals as goal

pub returns-then-at : goal.returns-then-at
unfolding mapping_item_at mapping_rest_at
returns-then-at g c =
    let test : at code double_star (drop c.args.rest c.args.line.now) ≡ true = grind arith in
    rw test (c.mapping_rest.ensures (phrase_at c.args.depth))
