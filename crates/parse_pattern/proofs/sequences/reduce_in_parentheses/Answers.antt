-- One pattern without a comma stays as it is.
use Rattle.std.proofs.Common.{◌≡◌, true, false, drop, arith}
use Rattle.std.proofs.lemmas.List.{length-drop}
use Rattle.py_language.specs.Readers.{before}
use Rattle.py_grammar.specs.Expressions.{ends_with_comma}
use Rattle.py_forest.specs.Forests.{trees}
use Rattle.parse_pattern.proofs.Ends.{alone, with_comma, not_one}
use Rattle.parse_pattern.proofs.sequences.reduce_in_parentheses.Goals as goal
use Rattle.parse_pattern.proofs.sequences.reduce_in_parentheses.Goals.{else-saturating_sub-eq1-via-then-saturating_sub-eq1+else-not-last_but_one_is, else-saturating_sub-eq1-via-else-saturating_sub-eq1}

pub returns-then-not-last_but_one_is-clause-ok : goal.returns-then-not-last_but_one_is-clause-ok
returns-then-not-last_but_one_is-clause-ok c =
    let ts = before (drop c.args.start c.args.line.now) (drop c.args.rest c.args.line.now) in
    let no_comma : ends_with_comma ts ≡ false = grind arith in
    alone ts (trees c.args.forest.now) c.args.mark (grind arith) no_comma

pub returns-else-saturating_sub-eq1-clause-ok : goal.returns-else-saturating_sub-eq1-clause-ok
returns-else-saturating_sub-eq1-clause-ok c =
    let ts = before (drop c.args.start c.args.line.now) (drop c.args.rest c.args.line.now) in
    let ys = drop c.args.mark (trees c.args.forest.now) in
    elim c.else-saturating_sub-eq1.branch [
      | else-saturating_sub-eq1-via-then-saturating_sub-eq1+else-not-last_but_one_is w ↦ (let comma : ends_with_comma ts ≡ true = grind arith in let e = with_comma ts ys comma in rw e c.reduce.ensures.ok)
      | else-saturating_sub-eq1-via-else-saturating_sub-eq1 w ↦ (let e = not_one ts ys (λ one. grind (arith, length-drop c.args.mark (trees c.args.forest.now))) in rw e c.reduce.ensures.ok)
    ]
