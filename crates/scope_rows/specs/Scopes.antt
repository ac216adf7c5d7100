-- Small programs, their scopes, and the scope around each. Expected values
-- are those of Python's `symtable` and `ast`; tools/scope_choice.py writes this file.
use Rattle.std.specs.Prelude.{◌≡◌, [], ◌∷◌, Some, None}
use Rattle.scope_rows.specs.Questions.{scopes, inside}
use Rattle.scope_rows.specs.Reads.{program13}

abbrev pub Row13 : Type 0
Row13 = scopes program13 ≡ inside 0 None ∷ inside 1 (Some 0) ∷ inside 4 (Some 1) ∷ []

-- all of them
pub record ScopesHold : Type 0 where
  pub row13 : Row13
