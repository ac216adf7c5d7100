-- Counts and searches among the first so many, step by step. These serve the proofs of loops alone.
use Rattle.std.specs.Prelude.{ℕ, ◌+◌, ◌-◌, nat_eq, Bool, true, false, ◌||◌, if◌then◌else◌, List, [], ◌∷◌}
use Rattle.std.specs.Str.{bytes_eq}
use Rattle.scope_rules.specs.Nodes.{Name}
use Rattle.call_binding.specs.Parameters.{Parameter, takes_position}

-- how many of the first so many parameters take a value by position
abbrev pub counted : ℕ → List Parameter → ℕ
counted left [] = 0
counted left (p ∷ ps) = if nat_eq left 0 then 0 else (if takes_position p.kind then 1 else 0) + counted (left - 1) ps

-- a name is one of the first so many
abbrev pub found : ℕ → Name → List Name → Bool
found left x [] = false
found left x (y ∷ ys) = if nat_eq left 0 then false else (bytes_eq x y || found (left - 1) x ys)
