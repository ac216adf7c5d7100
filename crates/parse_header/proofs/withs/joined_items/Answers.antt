-- Each turn reads a comma and an item.
use Rattle.std.proofs.Common.{◌≡◌, true, false, drop, arith}
use Rattle.std.proofs.lemmas.Result.{err_from_is_err_and}
use Rattle.py_language.specs.Sets.{at}
use Rattle.py_language.specs.Readers.{behind, both}
use Rattle.py_grammar.specs.Terminals.{code}
use Rattle.py_grammar.specs.Words.{comma}
use Rattle.py_grammar.specs.Reading.{token, joined_}
use Rattle.py_grammar.specs.ReadingHeaders.{with_item_at}
use Rattle.py_grammar.specs.ReadingLines.{phrase_at}
use Rattle.py_forest.specs.Forests.{trees}
use Rattle.parse_steps.proofs.Shrinking.{is_shorter}
use Rattle.parse_steps.proofs.Loops.{loop_enter, loop_turn, loop_end, loop_failed}
use Rattle.parse_header.proofs.Repeated.{shrinks_item}
use Rattle.parse_header.proofs.withs.joined_items.Goals as goal

pub items-init : goal.items-init
items-init g c =
    let p = with_item_at (phrase_at c.args.depth) in
    loop_enter comma p (both (token comma) p) _ _ (drop c.args.rest c.args.line.now) _ c.in_ok-rest.ensures

pub items-smaller : goal.items-smaller
items-smaller g c = is_shorter (shrinks_item c.args.depth) _ _ (drop c.items.rest c.args.line.now) (drop c.in_ok-rest-2.rest c.args.line.now) c.in_ok-rest-2.ensures

pub items-preserved : goal.items-preserved
items-preserved g c =
    let step = both (token comma) (with_item_at (phrase_at c.args.depth)) in
    let test : at code comma (drop c.items.rest c.args.line.now) ≡ true = grind arith in
    loop_turn comma step _ _ _ (drop c.items.rest c.args.line.now) _ c.items.invariant test c.in_ok-rest-2.ensures
    (is_shorter (shrinks_item c.args.depth) _ _ (drop c.items.rest c.args.line.now) (drop c.in_ok-rest-2.rest c.args.line.now) c.in_ok-rest-2.ensures)

pub returns : goal.returns
returns g c =
    let step = both (token comma) (with_item_at (phrase_at c.args.depth)) in
    let test : at code comma (drop c.items.rest c.args.line.now) ≡ false = grind arith in
    loop_end comma step _ _ (drop c.items.rest c.args.line.now) c.items.invariant test

pub returns-in_err-rest-2 : goal.returns-in_err-rest-2
returns-in_err-rest-2 g c =
    let p = with_item_at (phrase_at c.args.depth) in
    let step = both (token comma) p in
    let test : at code comma (drop c.items.rest c.args.line.now) ≡ true = grind arith in
    let same = err_from_is_err_and c.from_residual-in_err-rest-2.result c.from_residual-in_err-rest-2.ensures.1 in
    rw (same.1, same.2)
    (loop_failed _ comma step (behind (trees c.args.forest.now) (joined_ p (drop c.args.rest c.args.line.now))) _ (drop c.items.rest c.args.line.now) c.items.invariant test c.in_err-rest-2.ensures)
