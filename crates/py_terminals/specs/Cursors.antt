-- How far the code has come in a string, as it goes from field to field.
use Rattle.std.specs.Prelude.{◌≡◌, ◌≤◌, ℕ, List, length}
use Rattle.lint_values.specs.declared.place.Pos.{Pos}
use Rattle.py_source.specs.Places.{pos_from}
use Rattle.py_terminals.specs.declared.place.Cursor.{Cursor}

-- this is the place of a byte of a text that begins here
pub record StandsAt (text : List ℕ) (pos : Pos) (cursor : Cursor) : Type 0 where
  pub within : cursor.place ≤ length text
  pub here : cursor.at ≡ pos_from pos cursor.place text
