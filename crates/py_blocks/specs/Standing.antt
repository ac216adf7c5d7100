-- What is kept of the lines before while faults are looked for: the lines that still stand, each with the kind of its elder.
-- A line stands while all lines behind it are deeper. It only serves the proofs.
use Rattle.std.specs.Prelude.{◌≡◌, ℕ, Bool, true, false, ◌||◌, nat_lt, nat_eq, if◌then◌else◌, List, [], ◌∷◌, Option, Some, None}
use Rattle.py_grammar.specs.declared.head.Head.{Head}
use Rattle.py_blocks.specs.declared.line.Line.{Line}
use Rattle.py_blocks.specs.declared.standing.Standing.{Standing}
use Rattle.py_blocks.specs.declared.standing.Around.{Around}
use Rattle.py_blocks.specs.Heads.{is_try}

-- the top
abbrev pub top : List Standing → Option Standing
top [] = None
top (line ∷ standing) = Some line

-- those below the top
abbrev pub rest : List Standing → List Standing
rest [] = []
rest (line ∷ standing) = standing

-- without the deeper ones
abbrev pub left : ℕ → List Standing → List Standing
left level [] = []
left level (top ∷ standing) = if nat_lt level top.level then left level standing else top ∷ standing

-- one of the deeper ones is a `try`
abbrev pub tries : ℕ → List Standing → Bool
tries level [] = false
tries level (top ∷ standing) = if nat_lt level top.level then is_try top.head || tries level standing else false

-- the kind of the top
abbrev pub top_head : List Standing → Option Head
top_head [] = None
top_head (top ∷ standing) = Some top.head

-- the top, where it is of this level
abbrev pub elder_at : ℕ → List Standing → Option Head
elder_at level [] = None
elder_at level (top ∷ standing) = if nat_eq top.level level then Some top.head else None

-- and its elder
abbrev pub behind_at : ℕ → List Standing → Option Head
behind_at level [] = None
behind_at level (top ∷ standing) = if nat_eq top.level level then top.elder else None

-- those below
abbrev pub below : ℕ → List Standing → List Standing
below level [] = []
below level (top ∷ standing) = if nat_eq top.level level then standing else top ∷ standing

-- what a line of this level has around it
abbrev pub surroundings : Option Line → ℕ → List Standing → Around
surroundings previous level standing =
    let here = left level standing in
    record { previous = previous; elder = elder_at level here; behind = behind_at level here; under = top_head (below level here); leaves_try = tries level standing }

-- with a line on top
abbrev pub stand : Line → List Standing → List Standing
stand line standing =
    let here = left line.level standing in
    record { level = line.level; head = line.head; elder = elder_at line.level here } ∷ below line.level here

-- of the lines before, from the nearest back
abbrev pub standing_of : List Line → List Standing
standing_of [] = []
standing_of (line ∷ before) = stand line (standing_of before)
