use Rattle.std.proofs.Common.{◌≡◌, drop, string_bytes}
use Rattle.py_language.specs.Readers.{before}
use Rattle.py_grammar.specs.Nodes.{strings_from, strings_text}
use Rattle.py_forest.proofs.texts.joined_strings.Given as goal

abbrev pub invariant-loop-place : goal.invariant-loop-place
invariant-loop-place l = strings_from (string_bytes l.text) l.fields (before (drop l.place l.line) (drop l.rest l.line)) ≡ strings_text (before (drop l.start l.line) (drop l.rest l.line))
