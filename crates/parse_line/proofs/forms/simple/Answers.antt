-- What was read is nested too deep.
use Rattle.std.proofs.Common.{◌≡◌, ◌≤◌, nat_le, false, length, drop, arith}
use Rattle.py_language.specs.Nesting.{nesting_of}
use Rattle.py_grammar.specs.ReadingLines.{phrase_at}
use Rattle.py_grammar.specs.Weights.{weight}
use Rattle.py_forest.specs.Forests.{trees}
use Rattle.parse_line.proofs.LineLaws.{simple_too_deep}
use Rattle.parse_line.proofs.forms.simple.Goals as goal

pub returns-then-not-is_shallow : goal.returns-then-not-is_shallow
returns-then-not-is_shallow g c =
    let line = c.args.line.now in
    let deep : nat_le (nesting_of weight (drop c.len-mark.result (trees c.statements.new.forest))) 200 ≡ false = grind arith in
    let ended : length line ≤ c.in_ok-rest.rest = omega (arith, c.if-rest-len.false, c.len.ensures) in
    simple_too_deep (phrase_at c.args.depth) (trees c.args.forest.now) (trees c.statements.new.forest) line c.in_ok-rest.rest c.len-mark.result c.in_ok-rest.ensures ended c.len-mark.ensures deep
