-- Each turn reads an operator and an operand; the row is made at the end.
use Rattle.std.proofs.Common.{◌≡◌, true, false, arith, drop}
use Rattle.std.proofs.lemmas.Result.{err_from_is_err_and}
use Rattle.py_language.specs.Languages.{row}
use Rattle.py_language.specs.Sets.{at}
use Rattle.py_language.specs.Readers.{behind, both, many}
use Rattle.py_grammar.specs.Terminals.{code}
use Rattle.py_grammar.specs.Nodes.{spanning}
use Rattle.py_grammar.specs.ReadingLines.{phrase_at}
use Rattle.py_forest.specs.Forests.{trees}
use Rattle.parse_steps.proofs.Shrinking.{is_shorter}
use Rattle.parse_steps.proofs.Loops.{loop_enter, loop_turn, loop_end, loop_failed, made_done, failed_make}
use Rattle.parse_expr.specs.Levels.{level_first, level_kind, operator_at, within_at}
use Rattle.parse_expr.proofs.Turns.{shrinks_turn}
use Rattle.parse_expr.proofs.rows.row.Goals as goal

pub operands-init : goal.operands-init
operands-init g c =
    let p = within_at (phrase_at c.args.depth) c.args.level in
    let step = both (operator_at (phrase_at c.args.depth) c.args.level) p in
    loop_enter (level_first c.args.level) p step _ _ (drop c.args.rest c.args.line.now) _ c.in_ok-rest.ensures

pub operands-smaller : goal.operands-smaller
operands-smaller g c = is_shorter (shrinks_turn c.args.depth c.args.level) _ _ (drop c.operands.rest c.args.line.now) (drop c.in_ok-rest-2.rest c.args.line.now) c.in_ok-rest-2.ensures

pub operands-preserved : goal.operands-preserved
operands-preserved g c =
    let p = within_at (phrase_at c.args.depth) c.args.level in
    let step = both (operator_at (phrase_at c.args.depth) c.args.level) p in
    let test : at code (level_first c.args.level) (drop c.operands.rest c.args.line.now) ≡ true = grind arith in
    loop_turn (level_first c.args.level) step _ _ _ (drop c.operands.rest c.args.line.now) _ c.operands.invariant test c.in_ok-rest-2.ensures
    (is_shorter (shrinks_turn c.args.depth c.args.level) _ _ (drop c.operands.rest c.args.line.now) (drop c.in_ok-rest-2.rest c.args.line.now) c.in_ok-rest-2.ensures)

pub returns : goal.returns
returns g c =
    let p = within_at (phrase_at c.args.depth) c.args.level in
    let step = both (operator_at (phrase_at c.args.depth) c.args.level) p in
    let test : at code (level_first c.args.level) (drop c.operands.rest c.args.line.now) ≡ false = grind arith in
    let ok = rw c.kind.ensures at c.in_ok-row.ensures.ok in
    made_done (row (spanning (level_kind c.args.level))) (drop c.args.rest c.args.line.now) _ _ _ c.len-mark.result (both p (many code (level_first c.args.level) step) (drop c.args.rest c.args.line.now)) _
    (loop_end (level_first c.args.level) step _ _ _ c.operands.invariant test) c.len-mark.ensures ok

pub returns-in_err-rest-2 : goal.returns-in_err-rest-2
returns-in_err-rest-2 g c =
    let p = within_at (phrase_at c.args.depth) c.args.level in
    let step = both (operator_at (phrase_at c.args.depth) c.args.level) p in
    let test : at code (level_first c.args.level) (drop c.operands.rest c.args.line.now) ≡ true = grind arith in
    let same = err_from_is_err_and c.from_residual-in_err-rest-2.result c.from_residual-in_err-rest-2.ensures.1 in
    rw (same.1, same.2)
    (failed_make _ (trees c.args.forest.now) (row (spanning (level_kind c.args.level))) (drop c.args.rest c.args.line.now) (both p (many code (level_first c.args.level) step) (drop c.args.rest c.args.line.now))
    (loop_failed _ (level_first c.args.level) step (behind (trees c.args.forest.now) (both p (many code (level_first c.args.level) step) (drop c.args.rest c.args.line.now))) _ (drop c.operands.rest c.args.line.now) c.operands.invariant test c.in_err-rest-2.ensures))
