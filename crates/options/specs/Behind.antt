-- What words say, behind what was said before.
use Rattle.std.specs.Prelude.{◌++◌, Ok, Err}
use Rattle.options.specs.declared.words.Said.{Said}
use Rattle.options.specs.Lines.{Reading}

abbrev pub behind : Said → Reading → Reading
behind done (Ok said) = Ok (record { edits = done.edits ++ said.edits; files = done.files ++ said.files })
behind done (Err fault) = Err fault
