use Rattle.std.proofs.Common.{length, drop}
use Rattle.tree_nodes.specs.declared.kind.Kind.TheVariants as kinds
use Rattle.py_language.specs.Languages.{whole}
use Rattle.py_language.specs.Readers.{behind, both, extended, in_turns}
use Rattle.py_grammar.specs.Terminals.{code}
use Rattle.py_grammar.specs.Words.{dot, name}
use Rattle.py_grammar.specs.Nodes.{called, last_text, atom_leaf}
use Rattle.py_grammar.specs.Reading.{token, leaf}
use Rattle.py_forest.specs.Forests.{trees}
use Rattle.parse_steps.proofs.Loops.{TurnLoop}
use Rattle.parse_pattern.proofs.names.dotted_name.Given as goal

abbrev pub invariant-dots : goal.invariant-dots
invariant-dots l =
    let k = extended (whole (called kinds.Attribute last_text)) (both (token dot) (token name)) in
    TurnLoop dot k (drop l.fn.rest l.fn.line) (behind (trees l.fn.forest) (in_turns code (leaf atom_leaf name) dot k (drop l.fn.rest l.fn.line))) (trees l.fn.forest) (trees l.forest) (drop l.rest l.fn.line)

abbrev pub decreases-dots : goal.decreases-dots
decreases-dots l = length (drop l.rest l.fn.line)
