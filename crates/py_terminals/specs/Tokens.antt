-- The terminal of a token: its symbol, its place, the line where it ends, and its text.
use Rattle.std.specs.Prelude.{ℕ, ◌-◌, if◌then◌else◌, length}
use Rattle.fstr_parse.specs.Bytes.{Text}
use Rattle.lint_values.specs.declared.place.Pos.{Pos}
use Rattle.py_grammar.specs.Terminals.{Terminal}
use Rattle.py_grammar.specs.declared.symbol.Symbol.{Symbol}
use Rattle.py_grammar.specs.declared.symbol.Symbol.TheVariants as s
use Rattle.py_normal_form.specs.NormalForm.{normal_form_of}
use Rattle.py_source.specs.Places.{pos_from}
use Rattle.py_source.specs.Spans.{bytes_of}
use Rattle.py_token.specs.Spans.{span_of}
use Rattle.py_token.specs.declared.token.Token.{Token}
use Rattle.py_token.specs.declared.token.TokenKind.{TokenKind}
use Rattle.py_token.specs.declared.token.TokenKind.TheVariants.{Name, Keyword, Number, Str, FStr, Op}
use Rattle.py_terminals.specs.Spelling.{keyword_symbol, name_symbol, operator_symbol}
use Rattle.py_terminals.specs.Strings.{has_letter}

-- what is written for a token
abbrev pub written : Text → Token → Text
written text token = bytes_of text (span_of token)

-- the line on which the last byte of a text stands that begins here
abbrev pub end_line_of : Pos → Text → ℕ
end_line_of pos text = (pos_from pos (length text - 1) text).line

-- a string without `f`: bytes where its letters hold a `b`
abbrev pub string_symbol : Text → Symbol
string_symbol text = if has_letter 98 text then s.Bytes else s.Str

-- the symbol of a token, by its kind and by what is written
abbrev pub symbol_of : TokenKind → Text → Symbol
symbol_of Name text = name_symbol text
symbol_of Keyword text = keyword_symbol text
symbol_of Number text = s.Number
symbol_of Str text = string_symbol text
symbol_of FStr text = s.FStr
symbol_of Op text = operator_symbol text

-- a name's normal form, and else what is written
abbrev pub text_of : TokenKind → Text → Text
text_of Name text = normal_form_of text
text_of Keyword text = text
text_of Number text = text
text_of Str text = text
text_of FStr text = text
text_of Op text = text

-- the terminal of a token of this kind that is written so
abbrev pub terminal_of : TokenKind → Text → Pos → Terminal
terminal_of kind text pos = record { symbol = symbol_of kind text; pos = pos; end_line = end_line_of pos text; text = text_of kind text }
