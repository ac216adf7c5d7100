-- Statements that are one word.
use Rattle.py_grammar.specs.declared.symbol.Symbol.{Symbol}
use Rattle.py_grammar.specs.declared.symbol.Symbol.TheVariants as s
use Rattle.tree_nodes.specs.declared.kind.Kind.{Kind}
use Rattle.tree_nodes.specs.declared.kind.Kind.TheVariants as kinds

-- the kind of the statement that is this word
abbrev pub lone_kind : Symbol → Kind
lone_kind s.BreakWord = kinds.Break
lone_kind s.ContinueWord = kinds.Continue
lone_kind symbol = kinds.Pass
