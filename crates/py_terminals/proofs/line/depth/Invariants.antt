use Rattle.std.proofs.Common.{◌≡◌, ◌≤◌, max, drop}
use Rattle.py_grammar.specs.Terminals.{code}
use Rattle.py_grammar.specs.Words.{closes, opens}
use Rattle.py_language.specs.Brackets.{peak}
use Rattle.py_terminals.proofs.line.depth.Given as goal

abbrev pub invariant-loop-place : goal.invariant-loop-place
invariant-loop-place l = record {
  most : max l.most (peak code opens closes l.level (drop l.place l.line)) ≡ peak code opens closes 0 l.line;
  level : l.level ≤ l.most;
  bound : l.level ≤ l.place;
}
