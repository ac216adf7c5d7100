-- A place in the text, with what stands before it.
use Rattle.std.specs.Prelude.{ℕ, ◌≡◌, ◌≤◌}
use Rattle.py_token.specs.Tokenized.{Tokenized}
use Rattle.pragma_scope.specs.declared.cursor.Cursor.{Cursor}
use Rattle.pragma_scope.specs.LogicalLines.{begun}
use Rattle.pragma_scope.specs.Regions.{passed}

-- no more than what stands before the place
pub record IsWithin (read : Tokenized) (cursor : Cursor) : Type 0 where
  pub lines : cursor.lines ≤ begun read cursor.place
  pub tokens : cursor.tokens ≤ passed read cursor.place

-- at this place, and just what stands before it
pub record IsAt (read : Tokenized) (at : ℕ) (cursor : Cursor) : Type 0 where
  pub place : cursor.place ≡ at
  pub lines : cursor.lines ≡ begun read at
  pub tokens : cursor.tokens ≡ passed read at
