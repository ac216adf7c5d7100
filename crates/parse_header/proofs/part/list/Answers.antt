-- Each turn passes a comma and reads a part.
use Rattle.std.proofs.Common.{◌≡◌, true, false, List, length, drop, ap, sym, ◌∙◌, arith}
use Rattle.std.proofs.lemmas.Result.{err_from_is_err_and}
use Rattle.std.proofs.lemmas.List.{length-drop}
use Rattle.py_language.specs.Sets.{at}
use Rattle.py_language.specs.Readers.{got}
use Rattle.py_grammar.specs.Terminals.{Terminal, code}
use Rattle.py_grammar.specs.Words.{comma}
use Rattle.py_grammar.specs.ReadingLines.{phrase_at}
use Rattle.py_forest.specs.Forests.{trees}
use Rattle.parse_steps.proofs.Shrinking.{is_kept}
use Rattle.parse_steps.proofs.Loops.{at_long, comma_enter, comma_turn, comma_end, comma_last, comma_failed}
use Rattle.parse_header.specs.Parts.{part_first, part_at}
use Rattle.parse_header.proofs.Repeated.{keeps_part}
use Rattle.parse_header.proofs.part.list.Goals as goal

pub parts-init : goal.parts-init
parts-init g c = comma_enter comma (part_first c.args.part) (part_at (phrase_at c.args.depth) c.args.part) _ _ (drop c.args.rest c.args.line.now) _ c.in_ok-rest.ensures

pub returns-then-not-at : goal.returns-then-not-at
returns-then-not-at g c =
    let test : at code comma (drop c.parts.rest c.args.line.now) ≡ true = grind arith in
    let none : at code (part_first c.args.part) (drop 1 (drop c.parts.rest c.args.line.now)) ≡ false = grind arith in
    comma_last comma (part_first c.args.part) (part_at (phrase_at c.args.depth) c.args.part) _ _ (drop c.parts.rest c.args.line.now) c.parts.invariant test none ∙ ap (λ (w : List Terminal). got (trees c.parts.forest) w) (sym c.behind-rest.ensures)

pub returns-in_err-rest-2 : goal.returns-in_err-rest-2
returns-in_err-rest-2 g c =
    let test : at code comma (drop c.parts.rest c.args.line.now) ≡ true = grind arith in
    let more : at code (part_first c.args.part) (drop 1 (drop c.parts.rest c.args.line.now)) ≡ true = grind arith in
    let p = err_from_is_err_and c.from_residual-in_err-rest-2.result c.from_residual-in_err-rest-2.ensures.1 in
    let h = rw c.behind-rest.ensures at c.in_err-rest-2.ensures in
    rw (p.1, p.2) (comma_failed _ comma (part_first c.args.part) (part_at (phrase_at c.args.depth) c.args.part) _ _ (drop c.parts.rest c.args.line.now) c.parts.invariant test more h)

pub parts-smaller : goal.parts-smaller
parts-smaller g c =
    let test : at code comma (drop c.parts.rest c.args.line.now) ≡ true = grind arith in
    let less = is_kept (keeps_part c.args.depth c.args.part) _ _ (drop c.behind-rest.result c.args.line.now) (drop c.in_ok-rest-2.rest c.args.line.now) c.in_ok-rest-2.ensures in
    omega (arith, less, ap length c.behind-rest.ensures, length-drop 1 (drop c.parts.rest c.args.line.now), at_long comma (drop c.parts.rest c.args.line.now) test)

pub parts-preserved : goal.parts-preserved
parts-preserved g c =
    let test : at code comma (drop c.parts.rest c.args.line.now) ≡ true = grind arith in
    let more : at code (part_first c.args.part) (drop 1 (drop c.parts.rest c.args.line.now)) ≡ true = grind arith in
    let h = rw c.behind-rest.ensures at c.in_ok-rest-2.ensures in
    let less = is_kept (keeps_part c.args.depth c.args.part) _ _ (drop 1 (drop c.parts.rest c.args.line.now)) (drop c.in_ok-rest-2.rest c.args.line.now) h in
    comma_turn comma (part_first c.args.part) (part_at (phrase_at c.args.depth) c.args.part) _ _ _ (drop c.parts.rest c.args.line.now) _ c.parts.invariant test more h
    (omega (arith, less, length-drop 1 (drop c.parts.rest c.args.line.now), at_long comma (drop c.parts.rest c.args.line.now) test))

pub returns : goal.returns
returns g c =
    let test : at code comma (drop c.parts.rest c.args.line.now) ≡ false = grind arith in
    comma_end comma (part_first c.args.part) (part_at (phrase_at c.args.depth) c.args.part) _ _ (drop c.parts.rest c.args.line.now) c.parts.invariant test
