-- What stands between commas.
use Rattle.std.specs.Prelude.{ℕ, List}
use Rattle.py_grammar.specs.declared.entry.Entry.{Entry}
use Rattle.py_grammar.specs.Firsts.{element_first, brace_first, argument_first, slices_first, target_first, parameter_first}
use Rattle.py_grammar.specs.Reading.{LineReader, element_at, sx_item_at, brace_entry_at, argument_at, slices_item_at, target_item_at, lambda_parameter_at}
use Rattle.parse_parts.specs.declared.parts.Part.{Part}
use Rattle.parse_parts.specs.declared.parts.Part.TheVariants as parts

-- with what a part begins
abbrev pub part_first : Part → List ℕ
part_first parts.Element = element_first
part_first parts.SxItem = element_first
part_first parts.BraceEntry = brace_first
part_first parts.Argument = argument_first
part_first parts.SlicesItem = slices_first
part_first parts.TargetItem = target_first
part_first parts.LambdaParameter = parameter_first

-- a part
abbrev pub part_at : (Entry → LineReader) → Part → LineReader
part_at self parts.Element = element_at self
part_at self parts.SxItem = sx_item_at self
part_at self parts.BraceEntry = brace_entry_at self
part_at self parts.Argument = argument_at self
part_at self parts.SlicesItem = slices_item_at self
part_at self parts.TargetItem = target_item_at self
part_at self parts.LambdaParameter = lambda_parameter_at self
