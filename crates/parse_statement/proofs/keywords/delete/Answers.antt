-- All are bound.
use Rattle.std.proofs.Common.{◌≡◌, ◌≤◌, ◌∙◌, true, length, drop, arith}
use Rattle.tree_nodes.specs.declared.kind.Kind.TheVariants as kinds
use Rattle.py_language.specs.Languages.{whole}
use Rattle.py_language.specs.Readers.{before, behind, both, got}
use Rattle.py_grammar.specs.declared.entry.Entry.TheVariants as e
use Rattle.py_grammar.specs.Words.{del_word}
use Rattle.py_grammar.specs.Firsts.{factor_first}
use Rattle.py_grammar.specs.Nodes.{spanning}
use Rattle.py_grammar.specs.Statements.{are_deletable, all_bound, deleted}
use Rattle.py_grammar.specs.Reading.{token, commas}
use Rattle.py_grammar.specs.ReadingStatements.{delete_at}
use Rattle.py_grammar.specs.ReadingLines.{phrase_at}
use Rattle.py_forest.specs.Forests.{trees}
use Rattle.parse_steps.proofs.Loops.{behind_after, behind_grows, made_done}
use Rattle.parse_statement.proofs.ValueLaws.{changed_done, filtered}
use Rattle.parse_statement.proofs.keywords.delete.Goals as goal

pub returns : goal.returns
unfolding delete_at
returns g c =
    let line = c.args.line.now in
    let b = trees c.args.forest.now in
    let m = trees c.list.new.forest in
    let test : are_deletable (drop c.len-mark.result m) ≡ true = grind arith in
    let read : behind b (both (token del_word) (commas factor_first (phrase_at c.args.depth e.BitOr)) (drop c.args.rest line)) ≡ got m (drop c.in_ok-rest-2.rest line) = behind_after b b _ _ _ (c.in_ok-rest.ensures b) ∙ c.in_ok-rest-2.ensures in
    let within : c.len-mark.result ≤ length m = omega (arith, c.len-mark.ensures, behind_grows b m _ _ read) in
    made_done deleted (drop c.args.rest line) b m _ c.len-mark.result _ _ (filtered are_deletable b m _ _ c.len-mark.result read c.len-mark.ensures test) c.len-mark.ensures
    (changed_done (whole (spanning kinds.Delete)) all_bound _ _ _ (before (drop c.args.rest line) (drop c.in_ok-rest-2.rest line)) c.len-mark.result within c.in_ok-bind_all.ensures.ok c.in_ok-reduce.ensures.ok)
