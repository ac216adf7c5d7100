-- What keys of an options file say, behind the edits of those before.
use Rattle.std.specs.Prelude.{List, ◌++◌, Ok, Err}
use Rattle.options.specs.declared.edits.Edit.{Edit}
use Rattle.options.specs.File.{EditsRead}

abbrev pub behind_edits : List Edit → EditsRead → EditsRead
behind_edits done (Ok edits) = Ok (done ++ edits)
behind_edits done (Err fault) = Err fault
