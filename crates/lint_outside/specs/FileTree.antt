-- What a device of files holds: a finite map from paths.
use Rattle.std.specs.Prelude.{ℕ, List}
use Rattle.std.specs.Ordering.{nat_cmp}
use Rattle.std.specs.Cmp.Lexicographic.{slice_cmp}
use Rattle.std.specs.FinMap.{FinMap}

-- what is held at a path: a file's bytes, or the names in a folder
pub data Held : Type 0 where
  HeldFile : List ℕ → Held
  HeldFolder : List (List ℕ) → Held

-- from each path at which something is held to what it is
abbrev pub FileTree : Type 0
FileTree = FinMap (slice_cmp nat_cmp) Held
