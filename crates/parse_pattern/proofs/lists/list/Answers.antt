-- Each turn passes a comma and reads an item.
use Rattle.std.proofs.Common.{◌≡◌, true, false, List, length, drop, ap, sym, ◌∙◌, arith}
use Rattle.std.proofs.lemmas.Result.{err_from_is_err_and}
use Rattle.std.proofs.lemmas.List.{length-drop}
use Rattle.py_language.specs.Sets.{at}
use Rattle.py_language.specs.Readers.{got}
use Rattle.py_grammar.specs.Terminals.{Terminal, code}
use Rattle.py_grammar.specs.Words.{comma}
use Rattle.py_grammar.specs.ReadingLines.{phrase_at}
use Rattle.py_forest.specs.Forests.{trees}
use Rattle.parse_steps.proofs.Shrinking.{is_kept}
use Rattle.parse_steps.proofs.Loops.{comma_enter, comma_turn, comma_end, comma_last, comma_failed}
use Rattle.parse_pattern.specs.Items.{item_at, item_first}
use Rattle.parse_pattern.proofs.ItemLaws.{keeps_item, at_long}
use Rattle.parse_pattern.proofs.lists.list.Goals as goal

pub items-init : goal.items-init
items-init g c = comma_enter comma (item_first c.args.kind) (item_at (phrase_at c.args.depth) c.args.kind) _ _ (drop c.args.rest c.args.line.now) _ c.in_ok-rest.ensures

pub returns-then-not-at : goal.returns-then-not-at
returns-then-not-at g c =
    let test : at code comma (drop c.items.rest c.args.line.now) ≡ true = grind arith in
    let none : at code (item_first c.args.kind) (drop 1 (drop c.items.rest c.args.line.now)) ≡ false = grind arith in
    comma_last comma (item_first c.args.kind) (item_at (phrase_at c.args.depth) c.args.kind) _ _ (drop c.items.rest c.args.line.now) c.items.invariant test none ∙ ap (λ (w : List Terminal). got (trees c.items.forest) w) (sym c.behind-rest.ensures)

pub returns-in_err-rest-2 : goal.returns-in_err-rest-2
returns-in_err-rest-2 g c =
    let test : at code comma (drop c.items.rest c.args.line.now) ≡ true = grind arith in
    let more : at code (item_first c.args.kind) (drop 1 (drop c.items.rest c.args.line.now)) ≡ true = grind arith in
    let p = err_from_is_err_and c.from_residual-in_err-rest-2.result c.from_residual-in_err-rest-2.ensures.1 in
    let h = rw c.behind-rest.ensures at c.in_err-rest-2.ensures in
    rw (p.1, p.2) (comma_failed _ comma (item_first c.args.kind) (item_at (phrase_at c.args.depth) c.args.kind) _ _ (drop c.items.rest c.args.line.now) c.items.invariant test more h)

pub items-smaller : goal.items-smaller
items-smaller g c =
    let test : at code comma (drop c.items.rest c.args.line.now) ≡ true = grind arith in
    let less = is_kept (keeps_item c.args.depth c.args.kind) _ _ (drop c.behind-rest.result c.args.line.now) (drop c.in_ok-rest-2.rest c.args.line.now) c.in_ok-rest-2.ensures in
    omega (arith, less, ap length c.behind-rest.ensures, length-drop 1 (drop c.items.rest c.args.line.now), at_long comma (drop c.items.rest c.args.line.now) test)

pub items-preserved : goal.items-preserved
items-preserved g c =
    let test : at code comma (drop c.items.rest c.args.line.now) ≡ true = grind arith in
    let more : at code (item_first c.args.kind) (drop 1 (drop c.items.rest c.args.line.now)) ≡ true = grind arith in
    let h = rw c.behind-rest.ensures at c.in_ok-rest-2.ensures in
    let less = is_kept (keeps_item c.args.depth c.args.kind) _ _ (drop 1 (drop c.items.rest c.args.line.now)) (drop c.in_ok-rest-2.rest c.args.line.now) h in
    comma_turn comma (item_first c.args.kind) (item_at (phrase_at c.args.depth) c.args.kind) _ _ _ (drop c.items.rest c.args.line.now) _ c.items.invariant test more h
    (omega (arith, less, length-drop 1 (drop c.items.rest c.args.line.now), at_long comma (drop c.items.rest c.args.line.now) test))

pub returns : goal.returns
returns g c =
    let test : at code comma (drop c.items.rest c.args.line.now) ≡ false = grind arith in
    comma_end comma (item_first c.args.kind) (item_at (phrase_at c.args.depth) c.args.kind) _ _ (drop c.items.rest c.args.line.now) c.items.invariant test
