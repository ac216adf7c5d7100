-- What stands between separators in a statement.
use Rattle.std.specs.Prelude.{ℕ, List}
use Rattle.py_grammar.specs.declared.entry.Entry.{Entry}
use Rattle.py_grammar.specs.declared.entry.Entry.TheVariants as e
use Rattle.py_grammar.specs.Words.{comma, name, semicolon}
use Rattle.py_grammar.specs.Firsts.{factor_first, statement_first}
use Rattle.py_grammar.specs.Reading.{LineReader}
use Rattle.py_grammar.specs.ReadingStatements.{imported_name_at, statement_at}
use Rattle.parse_statement.specs.declared.part.Part.{Part}
use Rattle.parse_statement.specs.declared.part.Part.TheVariants as parts

-- what stands between two of them
abbrev pub part_separator : Part → List ℕ
part_separator parts.Deleted = comma
part_separator parts.ImportedName = comma
part_separator parts.Statement = semicolon

-- with what a part begins
abbrev pub part_first : Part → List ℕ
part_first parts.Deleted = factor_first
part_first parts.ImportedName = name
part_first parts.Statement = statement_first

-- a part
abbrev pub part_at : (Entry → LineReader) → Part → LineReader
part_at self parts.Deleted = self e.BitOr
part_at self parts.ImportedName = imported_name_at self
part_at self parts.Statement = statement_at self
