-- Sets of tokens by their codes: a set is a list of codes, and a token has the code that a function gives it.
use Rattle.std.specs.Prelude.{ℕ, Bool, true, false, ◌==◌, ◌||◌, List, [], ◌∷◌, if◌then◌else◌}

-- a code is in the set
abbrev pub mem : ℕ → List ℕ → Bool
mem x [] = false
mem x (y ∷ ys) = (x == y) || mem x ys

-- the front token is in the set
abbrev pub at : {T : Type 0} → (T → ℕ) → List ℕ → List T → Bool
at code set [] = false
at code set (t ∷ ts) = mem (code t) set

-- no code is in both
abbrev pub are_apart : List ℕ → List ℕ → Bool
are_apart [] ys = true
are_apart (x ∷ xs) ys = if mem x ys then false else are_apart xs ys

-- each code of the first is in the second
abbrev pub is_within : List ℕ → List ℕ → Bool
is_within [] ys = true
is_within (x ∷ xs) ys = if mem x ys then is_within xs ys else false
