-- What is kept while the rows are taken from the last one back: what the lines so far make at each level, the deepest first.
use Rattle.std.specs.Prelude.{◌≡◌, ℕ, ◌+◌, ◌-◌, List, [], ◌∷◌, ◌++◌, length, replicate}
use Rattle.tree_nodes.specs.Trees.{Tree}
use Rattle.py_blocks.specs.Rows.{Row}

-- the first, or what there is where nothing is
abbrev pub first_or : {P : Type 0} → P → List P → P
first_or none [] = none
first_or none (p ∷ ps) = p

-- all behind the first
abbrev pub others : {P : Type 0} → List P → List P
others [] = []
others (p ∷ ps) = ps

-- so many levels at least
abbrev pub deepened : {P : Type 0} → P → ℕ → List P → List P
deepened none count levels = replicate (count - length levels) none ++ levels

-- a row joins the lines of its block and those behind it
abbrev pub joined : {P X : Type 0} → P → (Row X → P → P → P) → Row X → List P → List P
joined none add row levels = add row (first_or none levels) (first_or none (others levels)) ∷ others (others levels)

-- one row more
abbrev pub taken : {P X : Type 0} → P → (Row X → P → P → P) → Row X → List P → List P
taken none add row levels = joined none add row (deepened none (row.level + 2) levels)

-- all rows
abbrev pub stack : {P X : Type 0} → P → (Row X → P → P → P) → List (Row X) → List P
stack none add [] = []
stack none add (row ∷ rows) = taken none add row (stack none add rows)
