-- Classes of bytes, as the code names them.
use Rattle.std.specs.Prelude.{ℕ, Bool}
use Rattle.py_source.specs.declared.bytes.Class.{Class}
use Rattle.py_source.specs.declared.bytes.Class.TheVariants.{InLine, Blank, Indent, NameByte}
use Rattle.py_source.specs.Physical.{is_in_line}
use Rattle.py_source.specs.Coding.{is_blank, is_indent, is_name_byte}

-- the byte is of the class
abbrev pub is_of : Class → ℕ → Bool
is_of InLine b = is_in_line b
is_of Blank b = is_blank b
is_of Indent b = is_indent b
is_of NameByte b = is_name_byte b
