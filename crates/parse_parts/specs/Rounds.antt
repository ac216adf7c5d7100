-- What stands again and again, as long as the token there begins one.
use Rattle.std.specs.Prelude.{ℕ, List}
use Rattle.py_language.specs.Readers.{both}
use Rattle.py_grammar.specs.declared.entry.Entry.{Entry}
use Rattle.py_grammar.specs.declared.entry.Entry.TheVariants as e
use Rattle.py_grammar.specs.Words.{if_word, field_open, byte_string}
use Rattle.py_grammar.specs.Firsts.{clause_first, string_first}
use Rattle.py_grammar.specs.Reading.{LineReader, token, clause_at, inner_field_at, field_at, string_part_at}
use Rattle.parse_parts.specs.declared.rounds.Round.{Round}
use Rattle.parse_parts.specs.declared.rounds.Round.TheVariants as rounds

-- with what one begins
abbrev pub round_first : Round → List ℕ
round_first rounds.Condition = if_word
round_first rounds.Clause = clause_first
round_first rounds.InnerField = field_open
round_first rounds.Field = field_open
round_first rounds.StringPart = string_first
round_first rounds.ByteString = byte_string

-- one of them
abbrev pub round_at : (Entry → LineReader) → Round → LineReader
round_at self rounds.Condition = both (token if_word) (self e.Or)
round_at self rounds.Clause = clause_at self
round_at self rounds.InnerField = inner_field_at self
round_at self rounds.Field = field_at self
round_at self rounds.StringPart = string_part_at self
round_at self rounds.ByteString = token byte_string
