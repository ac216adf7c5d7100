use Rattle.std.proofs.Common.{◌≡◌, ◌++◌, drop, string_bytes}
use Rattle.py_language.specs.Readers.{before}
use Rattle.py_grammar.specs.Nodes.{joined, before_first}
use Rattle.parse_statement.proofs.texts.joined_before.Given as goal

abbrev pub invariant-loop-place : goal.invariant-loop-place
invariant-loop-place l =
    string_bytes l.texts ++ joined (before_first l.stops (before (drop l.place l.line) (drop l.rest l.line))) ≡ joined (before_first l.stops (before (drop l.start l.line) (drop l.rest l.line)))
