-- Each turn reads a bar and a pattern; the row is made at the end.
use Rattle.std.proofs.Common.{◌≡◌, ℕ, true, false, drop, arith}
use Rattle.std.proofs.lemmas.Result.{err_from_is_err_and}
use Rattle.tree_nodes.specs.declared.kind.Kind.TheVariants as kinds
use Rattle.py_language.specs.Languages.{row}
use Rattle.py_language.specs.Sets.{at}
use Rattle.py_language.specs.Readers.{behind, both, many}
use Rattle.py_grammar.specs.Terminals.{code}
use Rattle.py_grammar.specs.Words.{bar}
use Rattle.py_grammar.specs.Nodes.{spanning}
use Rattle.py_grammar.specs.Reading.{token}
use Rattle.py_grammar.specs.ReadingPatterns.{closed_pattern_at, or_pattern_at}
use Rattle.py_grammar.specs.ReadingLines.{phrase_at}
use Rattle.py_forest.specs.Forests.{trees}
use Rattle.parse_steps.proofs.Shrinking.{Shrinks, shrinks_both, shrinks_skipped, is_shorter}
use Rattle.parse_steps.proofs.Keeping.{keeps_phrase, keeps_closed_pattern}
use Rattle.parse_steps.proofs.Loops.{loop_enter, loop_turn, loop_end, loop_failed, made_done, failed_make}
use Rattle.parse_pattern.proofs.patterns.or_pattern.Goals as goal

shrinks_turn : (depth : ℕ) → Shrinks (both (token bar) (closed_pattern_at (phrase_at depth)))
shrinks_turn depth = shrinks_both (shrinks_skipped bar) (keeps_closed_pattern (phrase_at depth) (keeps_phrase depth))

pub alternatives-init : goal.alternatives-init
alternatives-init g c =
    let p = closed_pattern_at (phrase_at c.args.depth) in
    loop_enter bar p (both (token bar) p) _ _ (drop c.args.rest c.args.line.now) _ c.in_ok-rest.ensures

pub alternatives-smaller : goal.alternatives-smaller
alternatives-smaller g c = is_shorter (shrinks_turn c.args.depth) _ _ (drop c.alternatives.rest c.args.line.now) (drop c.in_ok-rest-2.rest c.args.line.now) c.in_ok-rest-2.ensures

pub alternatives-preserved : goal.alternatives-preserved
alternatives-preserved g c =
    let step = both (token bar) (closed_pattern_at (phrase_at c.args.depth)) in
    let test : at code bar (drop c.alternatives.rest c.args.line.now) ≡ true = grind arith in
    loop_turn bar step _ _ _ (drop c.alternatives.rest c.args.line.now) _ c.alternatives.invariant test c.in_ok-rest-2.ensures
    (is_shorter (shrinks_turn c.args.depth) _ _ (drop c.alternatives.rest c.args.line.now) (drop c.in_ok-rest-2.rest c.args.line.now) c.in_ok-rest-2.ensures)

pub returns : goal.returns
unfolding or_pattern_at
returns g c =
    let p = closed_pattern_at (phrase_at c.args.depth) in
    let step = both (token bar) p in
    let test : at code bar (drop c.alternatives.rest c.args.line.now) ≡ false = grind arith in
    made_done (row (spanning kinds.MatchOr)) (drop c.args.rest c.args.line.now) _ _ _ c.len-mark.result (both p (many code bar step) (drop c.args.rest c.args.line.now)) _
    (loop_end bar step _ _ _ c.alternatives.invariant test) c.len-mark.ensures c.in_ok-row.ensures.ok

pub returns-in_err-rest-2 : goal.returns-in_err-rest-2
unfolding or_pattern_at
returns-in_err-rest-2 g c =
    let p = closed_pattern_at (phrase_at c.args.depth) in
    let step = both (token bar) p in
    let test : at code bar (drop c.alternatives.rest c.args.line.now) ≡ true = grind arith in
    let same = err_from_is_err_and c.from_residual-in_err-rest-2.result c.from_residual-in_err-rest-2.ensures.1 in
    rw (same.1, same.2)
    (failed_make _ (trees c.args.forest.now) (row (spanning kinds.MatchOr)) (drop c.args.rest c.args.line.now) (both p (many code bar step) (drop c.args.rest c.args.line.now))
    (loop_failed _ bar step (behind (trees c.args.forest.now) (both p (many code bar step) (drop c.args.rest c.args.line.now))) _ (drop c.alternatives.rest c.args.line.now) c.alternatives.invariant test c.in_err-rest-2.ensures))
