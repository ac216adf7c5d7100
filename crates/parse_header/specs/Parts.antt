-- What stands between commas in a header.
use Rattle.std.specs.Prelude.{ℕ, List}
use Rattle.py_grammar.specs.declared.entry.Entry.{Entry}
use Rattle.py_grammar.specs.Firsts.{parameter_first, test_first}
use Rattle.py_grammar.specs.Reading.{LineReader}
use Rattle.py_grammar.specs.ReadingHeaders.{parameter_at, with_item_at}
use Rattle.parse_header.specs.declared.part.Part.{Part}
use Rattle.parse_header.specs.declared.part.Part.TheVariants as parts

-- with what a part begins
abbrev pub part_first : Part → List ℕ
part_first parts.Parameter = parameter_first
part_first parts.WithItem = test_first

-- a part
abbrev pub part_at : (Entry → LineReader) → Part → LineReader
part_at self parts.Parameter = parameter_at self
part_at self parts.WithItem = with_item_at self
