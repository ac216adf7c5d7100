-- The parameters behind a star are changed over all that were read.
use Rattle.std.proofs.Common.{drop}
use Rattle.py_language.specs.Readers.{before, where_}
use Rattle.py_grammar.specs.Firsts.{parameter_first}
use Rattle.py_grammar.specs.Tests.{parameters_in_order}
use Rattle.py_grammar.specs.Expressions.{keyword_only_behind_star}
use Rattle.py_grammar.specs.Reading.{commas, lambda_parameter_at, lambda_parameters_at}
use Rattle.py_grammar.specs.ReadingLines.{phrase_at}
use Rattle.py_forest.specs.Forests.{trees}
use Rattle.parse_steps.proofs.Loops.{made_done}
use Rattle.parse_expr.proofs.lambdas.lambda_parameters.Goals as goal

pub returns : goal.returns
unfolding lambda_parameters_at
returns g c =
    let all = drop c.args.rest c.args.line.now in
    let rest = drop c.in_ok-rest.rest c.args.line.now in
    made_done keyword_only_behind_star all (trees c.args.forest.now) _ _ c.len-mark.result (where_ parameters_in_order (commas parameter_first (lambda_parameter_at (phrase_at c.args.depth))) all) rest
    c.in_ok-rest.ensures c.len-mark.ensures (c.in_ok-keyword_only_behind_star.ensures.ok (before all rest))
