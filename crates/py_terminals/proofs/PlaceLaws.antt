-- Places from a cursor on.
use Rattle.std.proofs.Common.{◌≡◌, ℕ, ◌+◌, ◌-◌, ◌≤◌, List, drop, sym, ap, ◌∙◌, arith}
use Rattle.lint_values.specs.declared.place.Pos.{Pos}
use Rattle.py_source.specs.Places.{pos_from}
use Rattle.py_source.proofs.PlaceLaws.{pos_from-add}
use Rattle.py_terminals.specs.Cursors.{StandsAt}
use Rattle.py_terminals.specs.declared.place.Cursor.{Cursor}
use Rattle.py_token.proofs.ScanLaws.{col_bound, line_bound}

-- the place behind a cursor
pub moves : (text : List ℕ) (pos : Pos) (cursor : Cursor) (place : ℕ) (at : Pos) → StandsAt text pos cursor → cursor.place ≤ place → at ≡ pos_from cursor.at (place - cursor.place) (drop cursor.place text) → at ≡ pos_from pos place text
moves text pos cursor place at stands le same =
    let sum : cursor.place + (place - cursor.place) ≡ place = omega arith in
    same ∙ ap (λ p. pos_from p (place - cursor.place) (drop cursor.place text)) stands.here ∙ sym (pos_from-add pos cursor.place (place - cursor.place) text) ∙ ap (λ n. pos_from pos n text) sum

-- a cursor is no further down or right than it is behind the start
pub record IsBound (pos : Pos) (cursor : Cursor) : Type 0 where
  pub line : cursor.at.line ≤ pos.line + cursor.place
  pub col : cursor.at.col ≤ pos.col + cursor.place

pub bounds : (text : List ℕ) (pos : Pos) (cursor : Cursor) → StandsAt text pos cursor → IsBound pos cursor
bounds text pos cursor stands =
    record {
      line = omega (arith, ap (λ p. p.line) stands.here, line_bound pos cursor.place text);
      col = omega (arith, ap (λ p. p.col) stands.here, col_bound pos cursor.place text);
    }
