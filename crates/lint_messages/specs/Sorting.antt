-- A list in the order of a comparison.
use Rattle.std.specs.Prelude.{List, [], ◌∷◌, if◌then◌else◌}
use Rattle.std.specs.declared.cmp.Ordering.{Ordering}
use Rattle.std.specs.Ordering.{is_gt}

-- a list in order with one more element, which stands before those that it is not above
abbrev pub insert_by : {X : Type 0} → (X → X → Ordering) → X → List X → List X
insert_by R x [] = x ∷ []
insert_by R x (y ∷ ys) = if is_gt (R x y) then y ∷ insert_by R x ys else x ∷ y ∷ ys

-- the elements of a list in their order
abbrev pub sorted_by : {X : Type 0} → (X → X → Ordering) → List X → List X
sorted_by R [] = []
sorted_by R (x ∷ xs) = insert_by R x (sorted_by R xs)
