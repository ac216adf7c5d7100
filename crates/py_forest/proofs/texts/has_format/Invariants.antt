use Rattle.std.proofs.Common.{◌≡◌, drop}
use Rattle.py_language.specs.Readers.{before}
use Rattle.py_grammar.specs.Expressions.{has_format}
use Rattle.py_forest.proofs.texts.has_format.Given as goal

abbrev pub invariant-loop-place : goal.invariant-loop-place
invariant-loop-place l = has_format (before (drop l.place l.line) (drop l.rest l.line)) ≡ has_format (before (drop l.start l.line) (drop l.rest l.line))
