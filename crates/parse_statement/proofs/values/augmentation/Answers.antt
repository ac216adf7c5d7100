-- The first is bound.
use Rattle.std.proofs.Common.{◌≡◌, ◌∙◌, true, false, drop, arith}
use Rattle.std.proofs.lemmas.Result.{err_from_is_err_and}
use Rattle.tree_nodes.specs.declared.kind.Kind.TheVariants as kinds
use Rattle.py_language.specs.Languages.{whole}
use Rattle.py_language.specs.Readers.{before}
use Rattle.py_grammar.specs.Nodes.{spanning}
use Rattle.py_grammar.specs.Statements.{is_single_first, augmented, bound_first}
use Rattle.py_forest.specs.Forests.{trees}
use Rattle.parse_steps.proofs.Loops.{behind_after, failed_after}
use Rattle.parse_statement.proofs.ValueLaws.{changed_done, failed_second, mark_within, tested_done, tested_failed, tested_fails}
use Rattle.parse_statement.proofs.values.augmentation.Goals as goal

pub returns : goal.returns
returns g c below u e l =
    let line = c.args.line.now in
    let b = trees c.args.forest.now in
    let test : is_single_first (drop c.args.mark (trees c.value.new.forest)) ≡ true = grind arith in
    let read = behind_after b _ _ _ _ c.in_ok-rest.ensures ∙ c.in_ok-rest-2.ensures in
    tested_done is_single_first augmented below u b _ _ (drop c.args.start line) c.args.mark _ _ e l read test
    (changed_done (whole (spanning kinds.AugAssign)) bound_first _ _ _ (before (drop c.args.start line) (drop c.in_ok-rest-2.rest line)) c.args.mark (mark_within below u b _ c.args.mark _ _ e l read) c.in_ok-bind_first.ensures.ok c.in_ok-reduce.ensures.ok)

pub returns-then-not-is_single_first : goal.returns-then-not-is_single_first
returns-then-not-is_single_first g c below u e l =
    let line = c.args.line.now in
    let b = trees c.args.forest.now in
    let test : is_single_first (drop c.args.mark (trees c.value.new.forest)) ≡ false = grind arith in
    let read = behind_after b _ _ _ _ c.in_ok-rest.ensures ∙ c.in_ok-rest-2.ensures in
    tested_fails is_single_first augmented below u b _ (drop c.args.start line) c.args.mark _ _ e l read test

pub returns-in_err-rest : goal.returns-in_err-rest
returns-in_err-rest g c below u e l =
    let p = err_from_is_err_and c.from_residual.result c.from_residual.ensures.1 in
    rw (p.1, p.2) (tested_failed _ is_single_first augmented below u (trees c.args.forest.now) (drop c.args.start c.args.line.now) _ (failed_after _ _ _ _ c.in_err-rest.ensures))

pub returns-in_err-rest-2 : goal.returns-in_err-rest-2
returns-in_err-rest-2 g c below u e l =
    let p = err_from_is_err_and c.from_residual-in_err-rest-2.result c.from_residual-in_err-rest-2.ensures.1 in
    rw (p.1, p.2) (tested_failed _ is_single_first augmented below u (trees c.args.forest.now) (drop c.args.start c.args.line.now) _ (failed_second _ _ _ _ _ _ c.in_ok-rest.ensures c.in_err-rest-2.ensures))
