-- What is read is one target, and is bound.
use Rattle.std.proofs.Common.{◌≡◌, ◌∙◌, true, drop, length, refl, arith}
use Rattle.tree_nodes.specs.declared.kind.Kind.TheVariants as kinds
use Rattle.py_language.specs.Readers.{before, filter}
use Rattle.py_grammar.specs.Firsts.{target_first}
use Rattle.py_grammar.specs.Expressions.{bound, is_one_target}
use Rattle.py_grammar.specs.Reading.{tupled, target_item_at}
use Rattle.py_grammar.specs.ReadingLines.{phrase_at}
use Rattle.py_forest.specs.Forests.{trees}
use Rattle.parse_steps.proofs.Runs.{behind_filter}
use Rattle.parse_steps.proofs.Loops.{made_done}
use Rattle.parse_displays.proofs.comprehensions.targets.Goals as goal

pub returns : goal.returns
unfolding Rattle.py_grammar.specs.Reading.targets_at
returns g c =
    let part = target_item_at (phrase_at c.args.depth) in
    let ts = drop c.args.rest c.args.line.now in
    let read = tupled kinds.Tuple target_first part part ts in
    let one : is_one_target (drop (length (trees c.args.forest.now)) (trees c.tupled.new.forest)) ≡ true = grind arith in
    let sifted = behind_filter (trees c.args.forest.now) is_one_target read in
    made_done bound ts _ _ _ c.len-mark.result (filter is_one_target read) _ (sifted ∙ rw (c.in_ok-rest.ensures, one) refl) c.len-mark.ensures (c.in_ok-bind.ensures.ok (before ts (drop c.in_ok-rest.rest c.args.line.now)))
