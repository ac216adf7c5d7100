-- The letters of the numbers tell whether they are a complex one.
use Rattle.std.proofs.Common.{◌≡◌, ◌&&◌, true, false, if◌then◌else◌, drop, arith}
use Rattle.py_language.specs.Sets.{at}
use Rattle.py_language.specs.Readers.{before}
use Rattle.py_grammar.specs.Terminals.{code}
use Rattle.py_grammar.specs.Words.{sum_operator}
use Rattle.py_grammar.specs.Nodes.{last_text}
use Rattle.py_grammar.specs.Patterns.{is_imaginary_text}
use Rattle.py_forest.specs.Forests.{trees}
use Rattle.parse_pattern.proofs.NumberLaws.{number_alone, number_done, number_fails}
use Rattle.parse_pattern.proofs.literals.number_pattern.Goals as goal

pub returns-then-not-at : goal.returns-then-not-at
returns-then-not-at c self =
    let a : at code sum_operator (drop c.in_ok-real.real c.args.line.now) ≡ false = grind arith in
    number_alone self (trees c.args.forest.now) _ (drop c.args.rest c.args.line.now) _ (c.in_ok-real.ensures self) a

pub returns-then-not-is_complex : goal.returns-then-not-is_complex
returns-then-not-is_complex c self =
    let line = c.args.line.now in
    let a : at code sum_operator (drop c.in_ok-real.real line) ≡ true = grind arith in
    let test : ((if is_imaginary_text (last_text (before (drop c.args.rest line) (drop c.in_ok-real.real line))) then false else true) && is_imaginary_text (last_text (before (drop c.in_ok-place.place line) (drop c.in_ok-rest.rest line)))) ≡ false = grind arith in
    number_fails self (trees c.args.forest.now) _ _ _ (drop c.args.rest line) _ _ _ (c.in_ok-real.ensures self) a c.in_ok-place.ensures c.in_ok-rest.ensures test

pub returns : goal.returns
returns c self =
    let line = c.args.line.now in
    let a : at code sum_operator (drop c.in_ok-real.real line) ≡ true = grind arith in
    let test : ((if is_imaginary_text (last_text (before (drop c.args.rest line) (drop c.in_ok-real.real line))) then false else true) && is_imaginary_text (last_text (before (drop c.in_ok-place.place line) (drop c.in_ok-rest.rest line)))) ≡ true = grind arith in
    number_done self (trees c.args.forest.now) _ _ _ _ (drop c.args.rest line) _ _ _ c.len-mark.result (c.in_ok-real.ensures self) a c.in_ok-place.ensures c.in_ok-rest.ensures test c.len-mark.ensures c.in_ok-row.ensures.ok
