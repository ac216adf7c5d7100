-- How rows of the table of lines are tried: terminals without places, and the kind of a line.
use Rattle.std.specs.Prelude.{List, [], ◌∷◌, Option, Some, None}
use Rattle.py_grammar.specs.declared.head.Head.{Head}
use Rattle.py_grammar.specs.declared.symbol.Symbol.{Symbol}
use Rattle.py_grammar.specs.declared.symbol.Symbol.TheVariants as s
use Rattle.py_grammar.specs.Terminals.{Terminal}
use Rattle.py_grammar.specs.Lines.{LineForm}
use Rattle.py_grammar.specs.ReadingLines.{phrase_at, line_at}

-- a line, and the kind that it has, or none
pub record Row : Type 0 where
  pub line : List Terminal
  pub kind : Option Head

-- a terminal; a number is real
abbrev pub t : Symbol → Terminal
t symbol = record { symbol = symbol; pos = record { line = 1; col = 0 }; end_line = 1; text = 49 ∷ [] }

-- an imaginary number
abbrev pub j : Terminal
j = record { symbol = s.Number; pos = record { line = 1; col = 0 }; end_line = 1; text = 50 ∷ 106 ∷ [] }

abbrev pub head_of : Option LineForm → Option Head
head_of None = None
head_of (Some line) = Some line.head

-- the kind of a line, read with phrases at most eight deep
abbrev pub kind_of_line : Row → Option Head
kind_of_line row = head_of (line_at (phrase_at 8) row.line)

abbrev pub said : Row → Option Head
said row = row.kind
