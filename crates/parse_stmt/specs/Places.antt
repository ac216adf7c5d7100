-- Where a logical line stands, and the name that it says, by its tokens.
use Rattle.std.specs.Prelude.{ℕ, ◌+◌, ◌-◌, List, [], slice_get, slice_index_or, Option, Some, None}
use Rattle.lint_values.specs.declared.place.Pos.{Pos}
use Rattle.py_layout.specs.declared.logical.Logical.{Logical}
use Rattle.py_token.specs.Tokenized.{Tokenized}
use Rattle.py_token.specs.declared.token.Token.{Token}
use Rattle.py_grammar.specs.declared.head.Head.{Head}
use Rattle.py_grammar.specs.declared.head.Head.TheVariants as heads
use Rattle.py_terminals.specs.Lines.{no_line}
use Rattle.py_terminals.specs.Tokens.{end_line_of, text_of, written}

-- the logical line of a number, from 0
abbrev pub line_in : Tokenized → ℕ → Logical
line_in tokens n = slice_index_or tokens.lines n no_line

-- where a token begins
abbrev pub pos_of : Option Token → Pos
pos_of None = record { line = 0; col = 0 }
pos_of (Some token) = token.pos

-- the physical line where it ends
abbrev pub end_of : List ℕ → Option Token → ℕ
end_of text None = 0
end_of text (Some token) = end_line_of token.pos (written text token)

-- its text: a name's normal form, and else what is written
abbrev pub said : List ℕ → Option Token → List ℕ
said text None = []
said text (Some token) = text_of token.kind (written text token)

-- where a logical line begins: the place of its first token
abbrev pub first_pos : Tokenized → ℕ → Pos
first_pos tokens n = pos_of (slice_get tokens.tokens (line_in tokens n).first)

-- the physical line where its last token ends
abbrev pub last_line : Tokenized → ℕ → ℕ
last_line tokens n = end_of tokens.text (slice_get tokens.tokens ((line_in tokens n).end - 1))

-- the text of a token so many behind the first
abbrev pub word : Tokenized → ℕ → ℕ → List ℕ
word tokens first more = said tokens.text (slice_get tokens.tokens (first + more))

-- the name behind `def` or `class` in a line that begins with this token
abbrev pub name_behind : Tokenized → ℕ → Head → Option (List ℕ)
name_behind tokens first heads.FunctionDef = Some (word tokens first 1)
name_behind tokens first heads.AsyncFunctionDef = Some (word tokens first 2)
name_behind tokens first heads.ClassDef = Some (word tokens first 1)
name_behind tokens first head = None

-- the name that a logical line says
abbrev pub name_in : Tokenized → ℕ → Head → Option (List ℕ)
name_in tokens n head = name_behind tokens (line_in tokens n).first head
