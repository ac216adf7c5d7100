-- Those behind a star are given by keywords alone.
use Rattle.std.proofs.Common.{◌≡◌, true, drop, arith}
use Rattle.py_language.specs.Readers.{before, filter}
use Rattle.py_grammar.specs.Firsts.{parameter_first}
use Rattle.py_grammar.specs.Tests.{parameters_in_order}
use Rattle.py_grammar.specs.Expressions.{keyword_only_behind_star}
use Rattle.py_grammar.specs.Reading.{commas}
use Rattle.py_grammar.specs.ReadingHeaders.{parameter_at, parameters_at}
use Rattle.py_grammar.specs.ReadingLines.{phrase_at}
use Rattle.py_forest.specs.Forests.{trees}
use Rattle.parse_steps.proofs.Loops.{made_done}
use Rattle.parse_statement.proofs.ValueLaws.{filtered}
use Rattle.parse_header.proofs.parameters.parameters.Goals as goal

pub returns : goal.returns
unfolding parameters_at
returns g c =
    let line = c.args.line.now in
    let b = trees c.args.forest.now in
    let m = trees c.list.new.forest in
    let all = drop c.args.rest line in
    let rest = drop c.in_ok-rest.rest line in
    let read = commas parameter_first (parameter_at (phrase_at c.args.depth)) all in
    let test : parameters_in_order (drop c.len-mark.result m) ≡ true = grind arith in
    made_done keyword_only_behind_star all b m _ c.len-mark.result (filter parameters_in_order read) rest (filtered parameters_in_order b m read rest c.len-mark.result c.in_ok-rest.ensures c.len-mark.ensures test)
    c.len-mark.ensures (c.in_ok-keyword_only_behind_star.ensures.ok (before all rest))
