-- The line is read to its end, and what was read is nested too deep or not.
use Rattle.std.proofs.Common.{◌≡◌, ◌≤◌, ◌-◌, nat_le, true, false, length, drop, arith}
use Rattle.py_language.specs.Nesting.{nesting_of}
use Rattle.py_grammar.specs.ReadingLines.{phrase_at}
use Rattle.py_grammar.specs.Weights.{weight}
use Rattle.py_forest.specs.Forests.{trees}
use Rattle.parse_line.specs.Headers.{header_at}
use Rattle.parse_line.proofs.LineLaws.{headed_ends, headed_too_deep}
use Rattle.parse_line.proofs.forms.headed.Goals as goal

pub returns-then-not-is_shallow : goal.returns-then-not-is_shallow
returns-then-not-is_shallow g c =
    let line = c.args.line.now in
    let self = phrase_at c.args.depth in
    let deep : nat_le (nesting_of weight (drop c.len-mark.result (trees c.body.new.forest))) 200 ≡ false = grind arith in
    let ended : length line ≤ c.in_ok-rest-2.rest = omega (arith, c.if-rest-len.false, c.len-2.ensures) in
    headed_too_deep self c.args.head (header_at self c.args.kind) (trees c.args.forest.now) (trees c.header_and_colon.new.forest) (trees c.body.new.forest) line (drop c.in_ok-rest.rest line) c.in_ok-rest-2.rest c.len-mark.result
    c.in_ok-rest.ensures c.in_ok-rest-2.ensures ended c.len-mark.ensures deep

pub returns : goal.returns
returns g c =
    let line = c.args.line.now in
    let self = phrase_at c.args.depth in
    let fits : nat_le (nesting_of weight (drop c.len-mark.result (trees c.body.new.forest))) 200 ≡ true = grind arith in
    let ended : length line ≤ c.in_ok-rest-2.rest = omega (arith, c.if-rest-len.false, c.len-2.ensures) in
    let count : c.saturating_sub-nodes.result ≡ length (trees c.header_and_colon.new.forest) - c.len-mark.result = grind arith in
    headed_ends self c.args.head (header_at self c.args.kind) (trees c.args.forest.now) (trees c.header_and_colon.new.forest) (trees c.body.new.forest) line (drop c.in_ok-rest.rest line) c.in_ok-rest-2.rest c.saturating_sub-nodes.result c.len-mark.result
    c.in_ok-rest.ensures c.in_ok-rest-2.ensures ended c.len-mark.ensures fits count
