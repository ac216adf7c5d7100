-- How a line's symbols are kept: all texts in one, and spans of it.
use Rattle.std.specs.Prelude.{ℕ, ◌≤◌, List, map, slice_range, All}
use Rattle.std.specs.Str.{IsCharBoundary}
use Rattle.py_grammar.specs.Terminals.{Terminal}
use Rattle.py_line.specs.declared.line.LineRow.{LineRow}
use Rattle.py_line.specs.declared.line.Span.{Span}

-- the part of a text within a span
abbrev pub within : List ℕ → Span → List ℕ
within text span = slice_range text span.start span.end

-- a span of a text that begins and ends between characters
pub record IsTextIn (text : List ℕ) (span : Span) : Type 0 where
  pub ordered : span.start ≤ span.end
  pub starts : IsCharBoundary text span.start
  pub ends : IsCharBoundary text span.end

-- the symbol that a row says, over all texts
abbrev pub terminal_in : List ℕ → LineRow → Terminal
terminal_in texts row = record { symbol = row.symbol; pos = row.pos; end_line = row.end_line; text = within texts row.text }

-- the symbols that rows say
abbrev pub terminals_in : List ℕ → List LineRow → List Terminal
terminals_in texts rows = map (terminal_in texts) rows

-- the text of each row is a text
abbrev pub AreTextsIn : List ℕ → List LineRow → Type 0
AreTextsIn texts rows = All (λ row. IsTextIn texts row.text) rows
