-- Statements that are one word.
use Rattle.std.proofs.Common.{◌≡◌, refl}
use Rattle.py_grammar.specs.declared.symbol.Symbol.{Symbol}
use Rattle.py_grammar.specs.declared.symbol.Symbol.TheVariants as s
use Rattle.py_grammar.specs.Terminals.{Terminal}
use Rattle.py_grammar.specs.Nodes.{plain_leaf}
use Rattle.py_grammar.specs.Statements.{lone_leaf}
use Rattle.parse_statement.specs.Lone.{lone_kind}

pub lone_is : (t : Terminal) → lone_leaf t ≡ plain_leaf (lone_kind t.symbol) t
lone_is t = go t.symbol
  where
    go : (x : Symbol) → lone_leaf (record { symbol = x; pos = t.pos; end_line = t.end_line; text = t.text }) ≡ plain_leaf (lone_kind x) t
    go s.BreakWord = refl
    go s.ContinueWord = refl
    go x = refl
