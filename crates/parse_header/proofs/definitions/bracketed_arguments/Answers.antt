-- Arguments or none, and then the bracket that closes.
use Rattle.std.proofs.Common.{drop}
use Rattle.py_language.specs.Readers.{both, optional}
use Rattle.py_grammar.specs.Terminals.{code}
use Rattle.py_grammar.specs.Words.{left_paren, right_paren}
use Rattle.py_grammar.specs.Firsts.{argument_first}
use Rattle.py_grammar.specs.Reading.{token, arguments_at}
use Rattle.py_grammar.specs.ReadingLines.{phrase_at}
use Rattle.py_forest.specs.Forests.{trees}
use Rattle.parse_statement.proofs.ValueLaws.{reads_last}
use Rattle.parse_header.proofs.definitions.bracketed_arguments.Goals as goal

pub returns : goal.returns
returns g c =
    let line = c.args.line.now in
    let b = trees c.args.forest.now in
    let inside = optional code argument_first (arguments_at (phrase_at c.args.depth)) in
    reads_last line b b _ _ (token left_paren (drop c.args.rest line)) (both inside (token right_paren)) _ (c.in_ok-rest.ensures b)
    (reads_last line b _ _ _ _ (token right_paren) _ c.in_ok-rest-2.ensures (c.skip-2.ensures _))
