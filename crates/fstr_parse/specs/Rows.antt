-- Rows of steps: how a literal part is made of units, and an expression of strings and single bytes.
use Rattle.std.specs.Prelude.{◌≡◌, ℕ, List, [], ◌∷◌, ◌++◌}
use Rattle.std.specs.List.{concat}
use Rattle.fstr_parse.specs.Bytes.{Text}

-- These texts stand one behind the other and before the rest. Each is a step where it stands, and so many brackets or
-- formats are open there.
abbrev pub Row : (ℕ → Text → Text → Type 0) → (ℕ → Text → ℕ) → ℕ → List Text → ℕ → Text → Type 0
Row IsStep behind level [] level' rest = level ≡ level'
Row IsStep behind level (step ∷ steps) level' rest =
    IsStep level step (concat steps ++ rest) × Row IsStep behind (behind level step) steps level' rest
