-- Two words are passed, and then arguments may stand.
use Rattle.std.proofs.Common.{drop}
use Rattle.py_language.specs.Readers.{both, optional}
use Rattle.py_grammar.specs.Terminals.{code}
use Rattle.py_grammar.specs.Words.{class_word, left_paren, name}
use Rattle.py_grammar.specs.Firsts.{argument_first}
use Rattle.py_grammar.specs.Reading.{token, parenthesized, arguments_at}
use Rattle.py_grammar.specs.ReadingHeaders.{class_header_at}
use Rattle.py_grammar.specs.ReadingLines.{phrase_at}
use Rattle.py_forest.specs.Forests.{trees}
use Rattle.parse_statement.proofs.ValueLaws.{reads_last}
use Rattle.parse_header.proofs.definitions.class_header.Goals as goal

pub returns : goal.returns
unfolding class_header_at
returns g c =
    let line = c.args.line.now in
    let b = trees c.args.forest.now in
    let arguments = optional code left_paren (parenthesized (optional code argument_first (arguments_at (phrase_at c.args.depth)))) in
    reads_last line b b _ _ (token class_word (drop c.args.rest line)) (both (token name) arguments) _ (c.in_ok-rest.ensures b)
    (reads_last line b b _ _ _ arguments _ (c.in_ok-rest-2.ensures b) c.maybe_bracketed_arguments.ensures)
