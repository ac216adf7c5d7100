-- What a call that cuts an f-string may answer. Want of memory is free.
use Rattle.std.specs.Prelude.{◌≡◌, ◌⊎◌, List, Result, Ok, Err}
use Rattle.fstr_parse.specs.declared.piece.Piece.{Piece}
use Rattle.fstr_parse.specs.declared.fault.FieldFault.{FieldFault}
use Rattle.fstr_parse.specs.declared.fault.FieldFault.TheVariants.{Memory}

-- these pieces, or want of memory
abbrev pub GivesOnly : Result (List Piece) FieldFault → List Piece → Type 0
GivesOnly (Ok given) pieces = given ≡ pieces
GivesOnly (Err fault) pieces = fault ≡ Memory

-- this fault, or want of memory
abbrev pub FaultsOnly : Result (List Piece) FieldFault → FieldFault → Type 0
FaultsOnly (Ok given) fault = ⊥
FaultsOnly (Err given) fault = (given ≡ fault) ⊎ (given ≡ Memory)
