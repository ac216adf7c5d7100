-- What two tables have together: the sets that are solved, and those in progress.
use Rattle.std.specs.Prelude.{ℕ, Option}
use Rattle.std.specs.FinMap as map
use Rattle.infer_sets.specs.Sets.{Set}
use Rattle.infer_equations.specs.Assignment.{Assignment, Map, or_none, either}
use Rattle.infer_equations.specs.Seen.{Seen, solved}

-- what two tables have for a variable, the first before the second
unfoldable pub found : Map × Map → ℕ → Option Set
found t v = either (map.get t.0 v) (map.get t.1 v)

-- what two tables give to each variable: a missing one has the empty set
unfoldable pub assigned : Map × Map → Assignment
assigned t v = or_none (found t v)

-- the two tables of a view: the solved sets, and those in progress
abbrev pub tables : Seen → Map × Map
tables s = (solved s, s.work)
