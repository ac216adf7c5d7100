use Rattle.std.proofs.Common.{◌≡◌, drop}
use Rattle.py_language.specs.Sets.{mem}
use Rattle.py_grammar.specs.Symbols.{set_of}
use Rattle.py_line.proofs.line.is_among.Given as goal

abbrev pub invariant-loop-other : goal.invariant-loop-other
invariant-loop-other l = mem l.wanted (set_of (drop l.other-index l.set)) ≡ mem l.wanted (set_of l.set)
