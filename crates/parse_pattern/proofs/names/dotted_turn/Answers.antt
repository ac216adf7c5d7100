-- The name behind the dot is the last of all.
use Rattle.std.proofs.Common.{drop, ◌∙◌}
use Rattle.tree_nodes.specs.declared.kind.Kind.TheVariants as kinds
use Rattle.py_language.specs.Languages.{whole}
use Rattle.py_grammar.specs.Nodes.{called, last_text}
use Rattle.py_forest.specs.Forests.{trees}
use Rattle.parse_steps.proofs.Loops.{behind_after}
use Rattle.parse_pattern.proofs.Ends.{extended_done}
use Rattle.parse_pattern.proofs.names.dotted_turn.Goals as goal

pub returns : goal.returns
returns c below u e l =
    let b = trees c.args.forest.now in
    let ok = rw c.last_text.ensures at c.in_ok-reduce_named.ensures.ok in
    extended_done (whole (called kinds.Attribute last_text)) below u b b _ (drop c.args.start c.args.line.now) c.args.mark _ _ e l (behind_after b b _ _ _ (c.in_ok-rest.ensures b) ∙ c.in_ok-rest-2.ensures b) ok
