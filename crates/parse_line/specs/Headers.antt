-- The headers of lines by their kind.
use Rattle.std.specs.Prelude.{[], ◌∷◌}
use Rattle.py_language.specs.Readers.{both, got}
use Rattle.py_grammar.specs.declared.entry.Entry.{Entry}
use Rattle.py_grammar.specs.Words.{async_word, elif_word, else_word, finally_word, if_word, try_word, while_word}
use Rattle.py_grammar.specs.Reading.{LineReader, token, named_at}
use Rattle.py_grammar.specs.ReadingStatements.{statements_at}
use Rattle.py_grammar.specs.ReadingHeaders.{for_header_at, except_header_at, except_star_header_at, plain_with_at, parenthesized_with_at, function_header_at, class_header_at, match_header_at, case_header_at}
use Rattle.parse_line.specs.declared.header.Header.{Header}
use Rattle.parse_line.specs.declared.header.Header.TheVariants as headers

-- a header up to its `:`
abbrev pub header_at : (Entry → LineReader) → Header → LineReader
header_at self headers.If = both (token if_word) (named_at self)
header_at self headers.Elif = both (token elif_word) (named_at self)
header_at self headers.Else = token else_word
header_at self headers.While = both (token while_word) (named_at self)
header_at self headers.For = for_header_at self
header_at self headers.AsyncFor = both (token async_word) (for_header_at self)
header_at self headers.Try = token try_word
header_at self headers.Except = except_header_at self
header_at self headers.ExceptStar = except_star_header_at self
header_at self headers.Finally = token finally_word
header_at self headers.With = plain_with_at self
header_at self headers.ParenthesizedWith = parenthesized_with_at self
header_at self headers.AsyncWith = both (token async_word) (plain_with_at self)
header_at self headers.AsyncParenthesizedWith = both (token async_word) (parenthesized_with_at self)
header_at self headers.FunctionDef = function_header_at self
header_at self headers.AsyncFunctionDef = both (token async_word) (function_header_at self)
header_at self headers.ClassDef = class_header_at self
header_at self headers.Match = match_header_at self
header_at self headers.Case = case_header_at self

-- the statements behind a header, if there are any
unfoldable pub body_at : (Entry → LineReader) → LineReader
body_at self [] = got [] []
body_at self (t ∷ ts) = statements_at self (t ∷ ts)
