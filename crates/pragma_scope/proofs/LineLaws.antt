-- Lines that a text reaches, and the first item that passes a test.
use Rattle.std.proofs.Common.{ℕ, zero, suc, ◌+◌, ◌≤◌, Bool, true, false, List, [], ◌∷◌, length, arith}
use Rattle.std.proofs.lemmas.List.Sums.{prefix_len-le-length}
use Rattle.std.specs.List.{prefix_len}
use Rattle.lint_values.specs.declared.place.Pos.{Pos}
use Rattle.py_source.specs.Places.{ends_line, next_pos, pos_from, pos_of}

next_within : (at : Pos) (ends : Bool) → (next_pos at ends 1).line ≤ at.line + 1
next_within at true = omega arith
next_within at false = omega arith

within_from : (at : Pos) (n : ℕ) (text : List ℕ) → (pos_from at n text).line ≤ at.line + n
within_from at zero text = omega arith
within_from at (suc n) [] = omega arith
within_from at (suc n) (b ∷ text) = omega (arith, within_from (next_pos at (ends_line b text) 1) n text, next_within at (ends_line b text))

-- a byte is at most one line further than the one before it
pub line_within : (text : List ℕ) (n : ℕ) → (pos_of text n).line ≤ 1 + n
line_within text n = within_from (record { line = 1; col = 0 }) n text

-- no more pass at the front than there are
pub prefix_within : {X : Type 0} (p : X → Bool) (xs : List X) → prefix_len p xs ≤ length xs
prefix_within p xs = prefix_len-le-length p xs
