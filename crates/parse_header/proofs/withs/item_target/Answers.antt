-- One target is bound.
use Rattle.std.proofs.Common.{◌≡◌, true, drop, arith}
use Rattle.py_language.specs.Readers.{before, filter}
use Rattle.py_grammar.specs.Expressions.{bound, is_one_target}
use Rattle.py_grammar.specs.Reading.{target_item_at}
use Rattle.py_grammar.specs.ReadingLines.{phrase_at}
use Rattle.py_forest.specs.Forests.{trees}
use Rattle.parse_steps.proofs.Loops.{made_done}
use Rattle.parse_statement.proofs.ValueLaws.{filtered}
use Rattle.parse_header.proofs.withs.item_target.Goals as goal

pub returns : goal.returns
returns g c =
    let line = c.args.line.now in
    let b = trees c.args.forest.now in
    let m = trees c.target_item.new.forest in
    let all = drop c.args.rest line in
    let rest = drop c.in_ok-rest.rest line in
    let test : is_one_target (drop c.len-mark.result m) ≡ true = grind arith in
    made_done bound all b m _ c.len-mark.result (filter is_one_target (target_item_at (phrase_at c.args.depth) all)) rest
    (filtered is_one_target b m (target_item_at (phrase_at c.args.depth) all) rest c.len-mark.result c.in_ok-rest.ensures c.len-mark.ensures test) c.len-mark.ensures (c.in_ok-bind.ensures.ok (before all rest))
